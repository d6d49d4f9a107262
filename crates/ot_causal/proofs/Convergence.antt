-- What both properties give of sound pasts and sessions.
use Rattle.std.proofs.Common.{◌≡◌, ℕ, suc, ◌<◌, false, List, length, Some, sym, ◌∙◌, arith}
use Rattle.ot_model.specs.declared.cell.Cell.{Cell}
use Rattle.fn_rules.specs.Functions.{Function}
use Rattle.fn_rules.specs.Forms.{CarriesForms}
use Rattle.ot_causal.specs.Past.{Past}
use Rattle.ot_causal.specs.Sessions.{IsSoundPast, SessionData, IsSound}
use Rattle.ot_causal.specs.Convergence.{HasOneCourse, Converges}
use Rattle.ot_causal.proofs.Pairs.{HasFormOn}
use Rattle.ot_causal.proofs.Induction.{Below, Below-all}

pub HasOneCourse-both : (f : Function) → CarriesForms f → f.head.chars_differ ≡ false
    → (past : Past) (first : List Cell) → IsSoundPast f past first → HasOneCourse f past first
HasOneCourse-both f both no_chars past first sound = record {
  documents = λ l closed. (up_to l).states l (longer l) closed;
  forms = λ o l d ready leads.
      let there : HasFormOn f past d o l = (up_to l).forms o l d (longer l) ready leads in
      record { there = there.there; is = there.is; enabled = there.integrable.enabled };
  one_document = λ l m closed_l closed_m same. (up_to l).same_states l m (longer l) closed_l closed_m same;
  one_form = λ o l m ready_l ready_m same. (up_to l).same_forms o l m (longer l) ready_l ready_m same;
}
  where
    up_to : (l : List ℕ) → Below f past first (suc (length l))
    up_to l = Below-all f both no_chars past first sound (suc (length l))

    longer : (l : List ℕ) → length l < suc (length l)
    longer l = omega arith

-- a session whose past has one course
pub Converges-one_course : (f : Function) (session : SessionData) → HasOneCourse f session.past session.first
    → IsSound f session → Converges f session
Converges-one_course f session course sound = record {
  never_stuck = λ s o site next. course.forms o (session.seen s) (session.document s) (next, sound.closed s site)
      (sound.documents s site);
  one_document = λ s u site_t site_u same.
      let one : Some (session.document s) ≡ Some (session.document u) =
      sym (sound.documents s site_t)
      ∙ course.one_document (session.seen s) (session.seen u) (sound.closed s site_t) (sound.closed u site_u) same
      ∙ sound.documents u site_u in
      cc;
}
