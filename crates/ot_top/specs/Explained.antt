-- What the statuses of `explain` show of a function whose file is told.
use Rattle.std.specs.Prelude.{◌≡◌, ◌⊎◌, ℕ, ◌<◌, ◌≤◌, List, length, Option, Some, None}
use Rattle.fn_rules.specs.declared.function.Level.{Level}
use Rattle.fn_rules.specs.Functions.{Function}
use Rattle.fn_rules.specs.Obligations.{obligations_of}
use Rattle.fn_grammar.specs.Grammar.{IsTextOf}
use Rattle.ot_questions.specs.declared.why.Why.{Why}
use Rattle.ot_questions.specs.Obligation.{plan_of}
use Rattle.ot_decide.specs.Verdicts.{AreAsked, ObQuestions, count_in, failing_in}
use Rattle.ot_counter.specs.declared.counter.Counter.{Counter}
use Rattle.ot_counter.specs.Counters.{Breaks, BreaksBy}
use Rattle.ot_replies.specs.declared.reply.Attempt.{Attempt}
use Rattle.ot_replies.specs.declared.reply.FileKind.TheVariants as files
use Rattle.ot_replies.specs.declared.reply.Ground.{Ground}
use Rattle.ot_replies.specs.declared.reply.Ground.TheVariants as grounds
use Rattle.ot_replies.specs.ExplainTexts.{breaks_text, holds_text, open_text}
use Rattle.ot_replies.specs.Limits.{limit_of}
use Rattle.ot_words.specs.Commands.{Explain}
use Rattle.ot_words.specs.Words.{asked_by, most_questions}
use Rattle.ot_commands.specs.Explain.{IsAttempt, steps_of}
use Rattle.ot_top.specs.Evidence.{Proof, IsEvidence}
use Rattle.ot_top.specs.Shown.{AreBothWays, HasBefore, HasLevel, IsAskedAt}

-- what shows that the function has the properties of the level: its obligations ask so many questions, no more than
-- `prove` may ask, and none of them fails; or a proof with lemmas of so many bytes
abbrev pub IsGround : Function → Level → Ground → Type 0
IsGround f level (grounds.Questions n) =
    (lists : List (ObQuestions Why)) × AreAsked (plan_of f) (obligations_of f.head level) lists
    × (failing_in lists ≡ None) × (n ≡ count_in lists) × (n ≤ most_questions)
IsGround f level (grounds.Proof n) = (proof : List ℕ) × IsEvidence Proof proof f level × (length proof ≡ n)

-- the obligations ask more questions than `prove` may ask
abbrev pub HasManyQuestions : Function → Level → Type 0
HasManyQuestions f level =
    (lists : List (ObQuestions Why)) × AreAsked (plan_of f) (obligations_of f.head level) lists
    × (most_questions < count_in lists)

-- at status 0 the function has the properties of the level, and what shows it was written
abbrev pub IsExplainedHolding : Function → Level → (List ℕ → Type 0) → ℕ → Type 0
IsExplainedHolding f level IsWritten status =
    (basis : Ground) × (status ≡ 0) × HasLevel f level × IsGround f level basis × IsWritten (holds_text level basis)

-- at status 1 the function breaks a property that is asked at the level, at the instance and by the cause that were
-- written; the sides that were written are what the interpreter gives, and the steps behind them what became of the
-- operations; where the property is TP2, the function has TP1
abbrev pub IsExplainedBroken : Function → Level → (List ℕ → Type 0) → ℕ → Type 0
IsExplainedBroken f level IsWritten status =
    (counter : Counter) × (status ≡ 1)
    × IsAskedAt counter.level level × HasBefore f counter.level
    × Breaks f counter.level counter.doc counter.ops × BreaksBy f counter.level counter.doc counter.ops counter.why
    × AreBothWays f counter.level counter.doc counter.ops counter.left counter.right
    × IsWritten (breaks_text counter (steps_of f counter))

-- at status 8 there are more questions than `prove` may ask, and `settle` said nothing either, for the cause that was
-- written: it is so, by the questions and the bytes that were written
abbrev pub IsExplainedOpen : Function → Level → (List ℕ → Type 0) → ℕ → Type 0
IsExplainedOpen f level IsWritten status =
    (attempt : Attempt) × (status ≡ 8) × HasManyQuestions f level × IsAttempt attempt
    × IsWritten (open_text most_questions attempt)

-- the words ask to explain a function; where its file is told, is within its limit and is the text of a function by the
-- grammar, the status and what was written are one of these
abbrev pub IsExplained : List (List ℕ) → (List ℕ → Option (List ℕ)) → (List ℕ → Type 0) → ℕ → Type 0
IsExplained words holds IsWritten status =
    (level : Level) (name bytes : List ℕ) (f : Function)
    → asked_by words ≡ Some (Explain level name) → holds name ≡ Some bytes
    → length bytes ≤ limit_of files.Function → IsTextOf bytes f
    → IsExplainedHolding f level IsWritten status
    ⊎ (IsExplainedBroken f level IsWritten status ⊎ IsExplainedOpen f level IsWritten status)
