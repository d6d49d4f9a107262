-- No function is told to have what a level says and to break a property that is asked at it.
use Rattle.std.proofs.Common.{◌≡◌, ℕ, List, Option, Some, Ok, IsTrue, sym, ap, ◌∙◌, subst, arith}
use Rattle.ot_model.specs.declared.cell.Cell.{Cell}
use Rattle.ot_model.specs.declared.op.Op.{Op}
use Rattle.fn_rules.specs.declared.function.Level.{Level}
use Rattle.fn_rules.specs.declared.function.Level.TheVariants.{Tp1, Tp2}
use Rattle.fn_rules.specs.Functions.{Function}
use Rattle.fn_rules.specs.Properties.{AreConcurrent}
use Rattle.fn_rules.specs.Validity.{is_valid}
use Rattle.fn_text.specs.Reading.{function_in}
use Rattle.ot_counter.specs.declared.counter.Counter.{Counter}
use Rattle.ot_counter.specs.Counters.{Breaks}
use Rattle.ot_replies.specs.declared.reply.Reply.{Reply}
use Rattle.ot_replies.specs.declared.reply.Reply.TheVariants.{Broken}
use Rattle.ot_replies.specs.declared.reply.Subject.TheVariants.{First}
use Rattle.ot_replies.specs.Texts.{status_of}
use Rattle.ot_commands.specs.Replies.{IsReplyTo}
use Rattle.ot_top.specs.Evidence.{Evidence, IsEvidence, asks_for}
use Rattle.ot_top.specs.Shown.{HasLevel, IsAskedAt}
use Rattle.ot_top.proofs.Breaking.{IsBrokenBy}
use Rattle.ot_top.proofs.OneFile.{function_once}
use Rattle.ot_top.proofs.Proving.{Gets, evidence_replied, found}

-- what a level says holds at no operations that break a property which is asked at it
not_broken : (f : Function) (level property : Level) (d : List Cell) (ops : List Op) → HasLevel f level
    → IsAskedAt property level
    → Breaks f property d ops → ⊥
not_broken f Tp1 Tp1 d ops tp1 asked (a, b, is, concurrent, breaks) =
    breaks (tp1 d a b (subst (λ (l : List Op). AreConcurrent f d l) is concurrent))
not_broken f Tp2 Tp1 d ops has asked (a, b, is, concurrent, breaks) =
    breaks (has.0 d a b (subst (λ (l : List Op). AreConcurrent f d l) is concurrent))
not_broken f Tp2 Tp2 d ops has asked (a, b, c, is, concurrent, breaks) =
    breaks (has.1 d a b c (subst (λ (l : List Op). AreConcurrent f d l) is concurrent))
not_broken f Tp1 Tp2 d ops has asked breaks = absurd asked

-- two replies to commands that write evidence of a told function are not a yes and a no
module _ (is_within_limits : (bytes : List ℕ) (f : Function) → function_in bytes ≡ Ok f → IsTrue (is_valid f))
    (has_level : (e : Evidence) (bytes : List ℕ) (f : Function) (level : Level)
    → IsEvidence e bytes f level → HasLevel f level)
    (is_broken :
    (e : Evidence) (f : Function) (level : Level) (budget : ℕ) (r : Reply) → 1 ≡ status_of r → IsTrue (is_valid f)
    → Gets e f level budget r → (counter : Counter) × IsBrokenBy f level counter × (r ≡ Broken counter)) where
  -- no two replies about a told function and a level are a yes and a no
  pub never_both :
      (holds : List ℕ → Option (List ℕ)) (holding failing : Evidence) (level : Level) (budget allowed : ℕ)
      (name bytes : List ℕ) (r s : Reply)
      → holds name ≡ Some bytes → IsReplyTo holds (asks_for holding level budget name) r
      → IsReplyTo holds (asks_for failing level allowed name) s
      → status_of r ≡ 0 → status_of s ≡ 1 → ⊥
  never_both holds holding failing level budget allowed name bytes r s told first second zero one =
      function_once (holds name) bytes told First (λ f. Gets holding f level budget r)
      (λ f. Gets failing f level allowed s) r s ⊥
      (evidence_replied holding holds r level budget name first)
      (evidence_replied failing holds s level allowed name second)
      (λ same. let clash : 0 ≡ 1 = sym zero ∙ ap (λ x. status_of x) same ∙ one in omega (arith, clash))
      (λ f read gets others.
      let shown = found holding f level budget r (sym zero) gets in
      let counter = is_broken failing f level allowed s (sym one) (is_within_limits bytes f read) others in
      not_broken f level counter.0.level counter.0.doc counter.0.ops
      (has_level holding shown.0 f level shown.1) counter.1.0 counter.1.2)
