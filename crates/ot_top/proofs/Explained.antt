-- What the statuses of `explain` show, from its replies.
use Rattle.std.proofs.Common.{◌⊎◌, ◌≡◌, ◌≢◌, ℕ, ◌≤◌, Bool, List, length, Option, Some, Result, Ok, IsTrue, refl, sym}
use Rattle.std.proofs.Common.{ap, ◌∙◌, subst, inl, inr, arith}
use Rattle.fn_tokens.specs.declared.fault.TextFault.{TextFault}
use Rattle.fn_rules.specs.declared.function.Level.{Level}
use Rattle.fn_rules.specs.declared.function.ObName.{ObName}
use Rattle.fn_rules.specs.Functions.{Function}
use Rattle.fn_rules.specs.Validity.{is_valid}
use Rattle.fn_grammar.specs.Grammar.{IsTextOf}
use Rattle.fn_text.specs.Reading.{function_in}
use Rattle.ot_prove.specs.declared.outcome.Answer.{Answer}
use Rattle.ot_questions.specs.declared.why.Why.{Why}
use Rattle.ot_decide.specs.declared.verdict.Verdict.{Verdict}
use Rattle.ot_decide.specs.declared.verdict.Verdict.TheVariants as verdicts
use Rattle.ot_decide.specs.Verdicts.{IsDecidedAs}
use Rattle.ot_settle.specs.declared.settled.Settled.{Settled}
use Rattle.ot_settle.specs.declared.settled.Settled.TheVariants as outcomes
use Rattle.ot_settle.specs.Outcomes.{HasCause, IsSettled}
use Rattle.plan_proofs.specs.declared.ended.Questions.{Questions}
use Rattle.ot_counter.specs.declared.counter.Counter.{Counter}
use Rattle.ot_replies.specs.declared.reply.Attempt.{Attempt}
use Rattle.ot_replies.specs.declared.reply.Explanation.TheVariants.{Holds, Breaks, Open}
use Rattle.ot_replies.specs.declared.reply.FileKind.TheVariants as files
use Rattle.ot_replies.specs.declared.reply.Ground.{Ground}
use Rattle.ot_replies.specs.declared.reply.Ground.TheVariants as grounds
use Rattle.ot_replies.specs.declared.reply.Reply.{Reply}
use Rattle.ot_replies.specs.declared.reply.Reply.TheVariants.{Broken, Explained}
use Rattle.ot_replies.specs.Limits.{limit_of}
use Rattle.ot_replies.specs.Texts.{status_of, text_of}
use Rattle.ot_words.specs.Commands.{Explain}
use Rattle.ot_words.specs.Words.{most_questions, settling_questions}
use Rattle.ot_commands.specs.Explain.{AreAllowed, ExplainsCounter, ExplainsSettled, ExplainsVerdict}
use Rattle.ot_commands.specs.Explain.{IsReplyToExplained, IsReplyToRead, IsReplyToText, attempt_of, steps_of}
use Rattle.ot_commands.specs.Load.{IsReplyToFile}
use Rattle.ot_commands.specs.Prove.{TellsCounter}
use Rattle.ot_top.specs.Evidence.{Certificate, Evidence, Proof, IsEvidence}
use Rattle.ot_top.specs.Explained.{HasManyQuestions, IsExplained, IsExplainedBroken, IsExplainedHolding}
use Rattle.ot_top.specs.Explained.{IsExplainedOpen, IsGround}
use Rattle.ot_top.specs.Shown.{HasLevel}
use Rattle.ot_top.proofs.Breaking.{IsBrokenBy}
use Rattle.ot_top.proofs.Proving.{Gets, reply_to_asked}
use Rattle.ot_top.proofs.Told.{IsAnswered}

-- the bytes of a told file within its limit get the reply
pub bytes_get :
    (told : Option (List ℕ)) (bytes : List ℕ) (BytesGet : List ℕ → Type 0) (r : Reply) → told ≡ Some bytes
    → length bytes ≤ limit_of files.Function
    → IsReplyToFile files.Function told BytesGet r → BytesGet bytes
bytes_get told bytes BytesGet r is small (inl longer) =
    absurd (let more = longer.0 bytes is in omega (arith, more, small))
bytes_get told bytes BytesGet r is small (inr (held, holds, got)) = subst BytesGet (holds.1 bytes is) got

-- the reply to a text is the one that it gets as what it is read as
pub text_gets :
    (level : Level) (bytes : List ℕ) (read : Result Function TextFault) (r : Reply) → function_in bytes ≡ read
    → IsReplyToText level bytes r
    → IsReplyToRead level bytes read r
unfolding IsReplyToText
text_gets level bytes read r is got = subst (λ (x : Result Function TextFault). IsReplyToRead level bytes x r) is got

-- the status of an explanation of a function is not 3
other_than : (r named : Reply) → r ≡ named → status_of named ≢ 3 → status_of r ≢ 3
other_than r named same other is = other (sym (ap (λ x. status_of x) same) ∙ is)

counter_other : (f : Function) (ob : ObName) (answers : List Answer) (why : Why) (r : Reply)
    → ExplainsCounter f ob answers why r → status_of r ≢ 3
counter_other f ob answers why r explains = other_than r _ explains.2 (λ is. absurd (omega (arith, is)))

settled_other : (f : Function) (level : Level) (asked : Questions) (written : ℕ) (settled : Settled) (r : Reply)
    → ExplainsSettled f level asked written settled r → status_of r ≢ 3
settled_other f level asked written (outcomes.Yes bytes) r same =
    other_than r _ same (λ is. absurd (omega (arith, is)))
settled_other f level asked written (outcomes.No ob answers why) r explains =
    counter_other f ob answers.items why r explains
settled_other f level asked written (outcomes.Spent cause) r same =
    other_than r _ same (λ is. absurd (omega (arith, is)))

verdict_other : (f : Function) (level : Level) (verdict : Verdict) (r : Reply)
    → ExplainsVerdict f level verdict r → status_of r ≢ 3
verdict_other f level (verdicts.Yes bytes asked) r same = other_than r _ same (λ is. absurd (omega (arith, is)))
verdict_other f level (verdicts.No ob answers why) r explains = counter_other f ob answers.items why r explains
verdict_other f level verdicts.Spent r (settled, asked, over, written, is_settled, allowed, caused, explains) =
    settled_other f level asked written settled r explains

-- a text that is read gets another status, and one that is refused gets this one
pub read_other : (f : Function) (level : Level) (r : Reply) → IsReplyToExplained f level r → status_of r ≢ 3
read_other f level r (verdict, decided, explains) = verdict_other f level verdict r explains

module _ (has_level : (e : Evidence) (bytes : List ℕ) (f : Function) (level : Level)
    → IsEvidence e bytes f level → HasLevel f level)
    (counter_found :
    (e : Evidence) (f : Function) (level : Level) (budget : ℕ) (r : Reply) → 1 ≡ status_of r → IsTrue (is_valid f)
    → Gets e f level budget r → (counter : Counter) × IsBrokenBy f level counter × (r ≡ Broken counter))
    (f : Function) (level : Level) (valid : IsTrue (is_valid f)) (r : Reply) (status : ℕ) (IsWritten : List ℕ → Type 0)
    (is : status ≡ status_of r) (written : IsWritten (text_of r)) where
  abbrev Shows : Type 0
  Shows =
      IsExplainedHolding f level IsWritten status
      ⊎ (IsExplainedBroken f level IsWritten status ⊎ IsExplainedOpen f level IsWritten status)

  written_as : (other : Reply) → r ≡ other → IsWritten (text_of other)
  written_as other same = subst (λ (x : Reply). IsWritten (text_of x)) same written

  status_as : (other : Reply) → r ≡ other → status ≡ status_of other
  status_as other same = is ∙ ap (λ x. status_of x) same

  -- the level is shown
  holding : (basis : Ground) → HasLevel f level → IsGround f level basis → r ≡ Explained (Holds level basis) → Shows
  holding basis has grounded same =
      inl (
        basis,
        status_as (Explained (Holds level basis)) same,
        has,
        grounded,
        written_as (Explained (Holds level basis)) same,
      )

  -- the counterexample is that which `prove` or `settle` would write
  broken :
      (e : Evidence) (ob : ObName) (answers : List Answer) (why : Why) → ExplainsCounter f ob answers why r
      → ((counter : Counter) → TellsCounter f ob answers why (Broken counter)
      → Gets e f level most_questions (Broken counter)) → Shows
  broken e ob answers why (counter, of_answers, same) gets =
      let found = counter_found e f level most_questions (Broken counter) refl valid
      (gets counter (counter, of_answers, refl)) in
      let one : found.0 ≡ counter = let named = found.2 in cc in
      let by : IsBrokenBy f level counter = subst (λ (c : Counter). IsBrokenBy f level c) one found.1 in
      let other : Reply = Explained (Breaks counter (steps_of f counter)) in
      inr (inl (counter, status_as other same, by.0, by.1, by.2, by.3, by.4, written_as other same))

  -- by what settling came to, where `prove` asked too much
  settled : (many : HasManyQuestions f level) (settled : Settled) (asked : Questions) (over : Bool) (bytes_written : ℕ)
      → IsSettled f level settled → AreAllowed settling_questions asked
      → HasCause settling_questions asked over bytes_written settled
      → ExplainsSettled f level asked bytes_written settled r → Shows
  settled many (outcomes.Yes bytes) asked over bytes_written shown allowed caused same =
      holding (grounds.Proof (length bytes.items)) (has_level Proof bytes.items f level shown.judged)
      (bytes.items, shown.judged, refl) same
  settled many (outcomes.No ob answers why) asked over bytes_written refuted allowed caused explains =
      broken Proof ob answers.items why explains (λ counter tells. (outcomes.No ob answers why, refuted, tells))
  settled many (outcomes.Spent cause) asked over bytes_written said allowed caused same =
      let attempt : Attempt = attempt_of cause asked bytes_written in
      let other : Reply = Explained (Open most_questions attempt) in
      inr (inr (
        attempt,
        status_as other same,
        many,
        record { allowed = allowed; cause = cause; named = refl; over = over; is_so = caused },
        written_as other same,
      ))

  -- by the verdict
  by_verdict : (verdict : Verdict) → IsDecidedAs f level most_questions verdict
      → ExplainsVerdict f level verdict r → Shows
  by_verdict (verdicts.Yes bytes asked) decided same =
      let proof = decided.2.2 in
      holding (grounds.Questions asked)
      (has_level Certificate bytes.items f level (proof.trees, proof.fit, proof.text)) (
        decided.0,
        decided.1,
        decided.2.1,
        proof.counted,
        subst (λ (n : ℕ). n ≤ most_questions) (sym proof.counted) decided.2.0,
      ) same
  by_verdict (verdicts.No ob answers why) decided explains =
      broken Certificate ob answers.items why explains
      (λ counter tells. (verdicts.No ob answers why, decided, λ _. tt, tells))
  by_verdict verdicts.Spent decided
      (settlement, asked, over, bytes_written, is_settled, allowed, caused, explains) =
      settled (decided.0, decided.1, decided.2) settlement asked over bytes_written is_settled allowed caused explains

  pub explained_so : IsReplyToExplained f level r → Shows
  explained_so (verdict, decided, explains) = by_verdict verdict decided explains

-- what `explain` was answered of a file that is the text of a function shows why its status is so
pub explained :
    ((e : Evidence) (bytes : List ℕ) (f : Function) (level : Level) → IsEvidence e bytes f level → HasLevel f level)
    → ((e : Evidence) (f : Function) (level : Level) (budget : ℕ) (r : Reply) → 1 ≡ status_of r → IsTrue (is_valid f)
    → Gets e f level budget r → (counter : Counter) × IsBrokenBy f level counter × (r ≡ Broken counter))
    → ((bytes : List ℕ) (f : Function) → IsTextOf bytes f → function_in bytes ≡ Ok f)
    → ((bytes : List ℕ) (f : Function) → IsTextOf bytes f → IsTrue (is_valid f))
    → (words : List (List ℕ)) (holds : List ℕ → Option (List ℕ)) (status : ℕ) (IsWritten : List ℕ → Type 0)
    → IsAnswered words holds status IsWritten → IsExplained words holds IsWritten status
explained has_level counter_found is_read is_within_limits words holds status IsWritten (r, reply, steady, is, written)
    level name bytes f named told small text =
    let got : IsReplyToText level bytes r =
    bytes_get (holds name) bytes (λ b. IsReplyToText level b r) r told small
    (reply_to_asked words holds r (Explain level name) named reply) in
    explained_so has_level counter_found f level (is_within_limits bytes f text) r status IsWritten is written
    (text_gets level bytes (Ok f) r (is_read bytes f text) got)
