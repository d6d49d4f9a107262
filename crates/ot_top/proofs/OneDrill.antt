-- The reply of `drill` is told by its number.
use Rattle.std.proofs.Common.{◌≡◌, ◌≢◌, ℕ, List, [], ◌∷◌, ◌++◌, length, map, Option, Result, Ok, Err, refl, sym, ap}
use Rattle.std.proofs.Common.{◌∙◌, subst, inl, inr, arith}
use Rattle.std.proofs.lemmas.List.{append_assoc, append-nil}
use Rattle.ot_model.specs.declared.cell.Cell.{Cell}
use Rattle.ot_model.specs.declared.op.Op.{Op}
use Rattle.fn_rules.specs.declared.function.Level.TheVariants.{Tp2}
use Rattle.fn_rules.specs.declared.function.ObName.{ObName}
use Rattle.fn_rules.specs.Functions.{Function}
use Rattle.fn_rules.specs.Obligations.{obligations_of}
use Rattle.case_json.specs.declared.script.Event.{Event}
use Rattle.case_json.specs.declared.script.Event.TheVariants.{Make, Take}
use Rattle.ot_questions.specs.declared.why.Why.{Why}
use Rattle.ot_questions.specs.Obligation.{plan_of}
use Rattle.ot_decide.specs.Verdicts.{AreAsked, ObQuestions}
use Rattle.ot_session.specs.declared.answer.Take.{Take as NotTaken}
use Rattle.ot_session.specs.declared.answer.Take.TheVariants as takes
use Rattle.ot_session.specs.declared.answer.Took.{Took}
use Rattle.ot_session.specs.Sites.{site_end_of}
use Rattle.ot_session.specs.Views.{View, data_in, IsBegun, HasMade, HasTaken}
use Rattle.ot_drill.specs.declared.limits.TheConstants.{SITES}
use Rattle.ot_drill.specs.declared.tally.Tally.{Tally}
use Rattle.ot_drill.specs.Events.{drill_events}
use Rattle.ot_drill.specs.Playing.{nothing_done, tally_with_answer, IsPlayed, ArePlayed, start, then}
use Rattle.ot_drill.specs.Workload.{drill_function}
use Rattle.ot_replies.specs.declared.reply.Drilled.{Drilled}
use Rattle.ot_replies.specs.declared.reply.Reply.{Reply}
use Rattle.ot_replies.specs.declared.reply.Reply.TheVariants as replies
use Rattle.ot_words.specs.Commands.{Drill}
use Rattle.ot_commands.specs.Drill.{IsDrilled, IsReplyToQuestions}
use Rattle.ot_commands.specs.Replay.{IsFirstPair}
use Rattle.ot_commands.specs.Replies.{IsReplyTo}
use Rattle.ot_top.proofs.OneReply.{first_pair_one, taken_is_no_refusal}

-- the events are done one after the other from a session and a count on, which are these two in the end
abbrev Plays : View → Tally → List Event → View → Tally → Type 0
Plays v t [] w u = (w ≡ v) × (u ≡ t)
Plays v t (event ∷ events) w u =
    (mid : View) × (count : Tally) × IsPlayed v t event mid count × Plays mid count events w u

-- events that were done with those that follow them, as one from the start
plays_on :
    (begun : View) (events : List Event) (v : View) (t : Tally) → ArePlayed begun events v t
    → (more : List Event) (w : View) (u : Tally)
    → Plays v t more w u → Plays begun nothing_done (events ++ more) w u
plays_on begun _ _ _ start more w u rest = rest
plays_on begun _ _ _ (then events mid new tally new_tally event played one) more w u rest =
    subst (λ (l : List Event). Plays begun nothing_done l w u) (sym (append_assoc events (event ∷ []) more))
    (plays_on begun events mid tally played (event ∷ more) w u (new, new_tally, one, rest))

-- so all that were done are done from the start
plays_all : (begun : View) (events : List Event) (v : View) (t : Tally) → ArePlayed begun events v t
    → Plays begun nothing_done events v t
plays_all begun events v t played =
    subst (λ (l : List Event). Plays begun nothing_done l v t) (append-nil events)
    (plays_on begun events v t played [] v t (refl, refl))

-- what came of a workload is one where its parts are
parts_once :
    (a b : Drilled) → a.number ≡ b.number → a.cases ≡ b.cases → a.level ≡ b.level
    → a.tally ≡ b.tally → a.cells ≡ b.cells
    → a.differ ≡ b.differ → a ≡ b
parts_once a b number cases level tally cells differ = λ i. record {
  number = number i;
  cases = cases i;
  level = level i;
  tally = tally i;
  cells = cells i;
  differ = differ i;
}

-- Facts of sessions and of questions that come with their laws: what begins,
-- what is made, what is taken and what is asked is one.
module _ (begin_as_one :
    (f : Function) (d : List Cell) (sites : ℕ) (one other : View) → IsBegun f d sites one
    → IsBegun f d sites other → one ≡ other)
    (one_outcome :
    (old one other : View) (t n m : ℕ) (o : Op) → HasMade old one t o n → HasMade old other t o m
    → (n ≡ m) × (one ≡ other))
    (one_answer :
    (old one other : View) (t n : ℕ) (a b : Result Took NotTaken) → HasTaken old one t n a → HasTaken old other t n b
    → a ≢ Err takes.NoMemory → b ≢ Err takes.NoMemory → a ≡ b)
    (one_session :
    (old one other : View) (t n : ℕ) (took : Took) → HasTaken old one t n (Ok took)
    → HasTaken old other t n (Ok took) → one ≡ other)
    (one_list :
    (f : Function) (obs : List ObName) (lists others : List (ObQuestions Why)) → AreAsked (plan_of f) obs lists
    → AreAsked (plan_of f) obs others → lists ≡ others) where
  -- the session and the count behind an event are one
  event_played_once :
      (v : View) (t : Tally) (event : Event) (one other : View) (count another : Tally) → IsPlayed v t event one count
      → IsPlayed v t event other another → (one ≡ other) × (count ≡ another)
  event_played_once v t (Make site op) one other count another (n, first, is) (m, second, same) =
      ((one_outcome v one other site n m op first second).1, is ∙ sym same)
  event_played_once v t (Take site number) one other count another (took, first, is) (too, second, same) =
      let both : Ok too ≡ Ok took = one_answer v other one site number (Ok too) (Ok took) second first
      (taken_is_no_refusal too takes.NoMemory) (taken_is_no_refusal took takes.NoMemory) in
      let answer : too ≡ took = cc in (
        one_session v one other site number took first
            (subst (λ (a : Took). HasTaken v other site number (Ok a)) answer second),
        is ∙ sym (ap (λ (a : Took). tally_with_answer t a) answer) ∙ sym same,
      )

  -- so are those behind events
  plays_once :
      (v : View) (t : Tally) (events : List Event) (one other : View) (count another : Tally)
      → Plays v t events one count
      → Plays v t events other another → (one ≡ other) × (count ≡ another)
  plays_once v t [] one other count another first second = (first.0 ∙ sym second.0, first.1 ∙ sym second.1)
  plays_once v t (event ∷ events) one other count another (mid, sum, first, rest) (middle, total, second, more) =
      let same = event_played_once v t event middle mid total sum second first in
      plays_once mid sum events one other count another rest
      (subst (λ (c : Tally). Plays mid c events other another) same.1
      (subst (λ (w : View). Plays w total events other another) same.0 more))

  -- what came of a workload is one
  drilled_once : (n : ℕ) (a b : Drilled) → IsDrilled n a → IsDrilled n b → a ≡ b
  drilled_once n a b one other =
      let begun : other.begun ≡ one.begun =
      begin_as_one (drill_function n) [] SITES other.begun one.begun other.is_begun one.is_begun in
      let played : ArePlayed one.begun (drill_events n) other.end b.tally =
      subst (λ (v : View). ArePlayed v (drill_events n) other.end b.tally) begun other.played in
      let same : (one.end ≡ other.end) × (a.tally ≡ b.tally) =
      plays_once one.begun nothing_done (drill_events n) one.end other.end a.tally b.tally
      (plays_all one.begun (drill_events n) one.end a.tally one.played)
      (plays_all one.begun (drill_events n) other.end b.tally played) in
      parts_once a b (one.number ∙ sym other.number) (one.cases ∙ sym other.cases) (one.level ∙ sym other.level) same.1
      (one.cells ∙ ap (λ (v : View). length ((data_in v).document 1)) same.0 ∙ sym other.cells)
      (first_pair_one 1 (map site_end_of other.end.sites) a.differ b.differ
      (subst (λ (v : View). IsFirstPair 1 (map site_end_of v.sites) a.differ) same.0 one.differ) other.differ)

  -- the reply to a workload with these questions is one
  questions_replied_once :
      (n : ℕ) (lists : List (ObQuestions Why)) (r s : Reply) → IsReplyToQuestions n lists r
      → IsReplyToQuestions n lists s → r ≡ s
  questions_replied_once n lists r s (inl (many, is)) (inl (_, same)) = is ∙ sym same
  questions_replied_once n lists r s (inl (many, is)) (inr (few, rest)) = absurd (omega (arith, many, few))
  questions_replied_once n lists r s (inr (few, rest)) (inl (many, is)) = absurd (omega (arith, many, few))
  questions_replied_once n lists r s (inr (few, (a, one, is))) (inr (_, (b, other, same))) =
      is ∙ ap (λ (d : Drilled). replies.Drilled d) (drilled_once n a b one other) ∙ sym same

  -- the reply to the number of a workload is one
  pub drill_replied_once :
      (holds : List ℕ → Option (List ℕ)) (number : ℕ) (r s : Reply) → IsReplyTo holds (Drill number) r
      → IsReplyTo holds (Drill number) s
      → r ≡ s
  drill_replied_once holds number r s (lists, asked, gets) (others, asked_too, others_get) =
      let same : others ≡ lists =
      one_list (drill_function number) (obligations_of (drill_function number).head Tp2) others lists asked_too asked in
      questions_replied_once number lists r s gets
      (subst (λ (l : List (ObQuestions Why)). IsReplyToQuestions number l s) same others_get)
