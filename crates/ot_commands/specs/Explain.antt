-- Which reply the text of a function gets that is to be explained: why the function has the properties of a level,
-- where it breaks one, that neither search decides it, or why there is no function.
use Rattle.std.specs.Prelude.{◌≡◌, ℕ, ◌≤◌, Bool, List, [], length, Option, Some, None, Result, Ok, Err}
use Rattle.fn_tokens.specs.declared.fault.TextFault.{TextFault}
use Rattle.fn_rules.specs.declared.function.Level.{Level}
use Rattle.fn_rules.specs.declared.function.ObName.{ObName}
use Rattle.fn_rules.specs.Functions.{Function}
use Rattle.fn_text.specs.Reading.{function_in}
use Rattle.fn_hints.specs.Hints.{HintParts, hint_in}
use Rattle.fn_hints.specs.Texts.{hint_text}
use Rattle.ot_prove.specs.declared.outcome.Answer.{Answer}
use Rattle.ot_prove.specs.Outcomes.{answered_by}
use Rattle.ot_questions.specs.declared.why.Why.{Why}
use Rattle.ot_decide.specs.declared.verdict.Verdict.{Verdict}
use Rattle.ot_decide.specs.declared.verdict.Verdict.TheVariants as verdicts
use Rattle.ot_decide.specs.Verdicts.{IsDecidedAs}
use Rattle.ot_settle.specs.declared.settled.Settled.{Settled}
use Rattle.ot_settle.specs.declared.settled.Settled.TheVariants as outcomes
use Rattle.plan_proofs.specs.declared.planning.TheConstants.{MAX_BYTES}
use Rattle.plan_proofs.specs.declared.ended.Questions.{Questions}
use Rattle.plan_proofs.specs.declared.ended.SpentCause.{SpentCause}
use Rattle.plan_proofs.specs.declared.ended.SpentCause.TheVariants as spent
use Rattle.ot_settle.specs.Outcomes.{HasCause, IsCause, IsSettled}
use Rattle.ot_counter.specs.declared.counter.Counter.{Counter}
use Rattle.ot_counter.specs.Counters.{IsCounter}
use Rattle.ot_steps.specs.ExplainedTexts.{explained_text}
use Rattle.ot_replies.specs.declared.reply.Attempt.{Attempt}
use Rattle.ot_replies.specs.declared.reply.Explanation.TheVariants.{Holds, Breaks, Open, Misread}
use Rattle.ot_replies.specs.declared.reply.Ground.TheVariants as grounds
use Rattle.ot_replies.specs.declared.reply.Reply.{Reply}
use Rattle.ot_replies.specs.declared.reply.Reply.TheVariants.{Explained}
use Rattle.ot_replies.specs.declared.reply.Unsettled.{Unsettled}
use Rattle.ot_replies.specs.declared.reply.Unsettled.TheVariants as causes
use Rattle.ot_words.specs.Words.{most_questions, settling_questions}
use Rattle.ot_commands.specs.Facts.{Facts, FunctionText, NothingMore}

-- what became of the operations of a counterexample, and the same as a case
abbrev pub steps_of : Function → Counter → List ℕ
steps_of f counter = explained_text f counter.level counter.doc counter.ops

-- the lines of a hint, where there is one
abbrev pub hint_lines : Option HintParts → List ℕ
hint_lines None = []
hint_lines (Some hint) = hint_text hint

-- what helps to mend the text of a function that is refused
abbrev pub help_of : List ℕ → List ℕ
help_of bytes = hint_lines (hint_in bytes)

-- why `settle` says nothing: it asked all questions that it may ask, or a proof would be longer than one may be, or it
-- found none
abbrev pub unsettled_by : SpentCause → Unsettled
unsettled_by spent.Budget = causes.Questions settling_questions
unsettled_by spent.Bytes = causes.Bytes MAX_BYTES
unsettled_by spent.NoWay = causes.NoProof

-- what a search came to that said nothing for a cause, by so many questions and with so many bytes written
abbrev pub attempt_of : SpentCause → Questions → ℕ → Attempt
attempt_of cause asked written = record {
  cause = unsettled_by cause;
  asked = asked.asked;
  again = asked.again;
  bytes = written;
}

-- how many questions an attempt asked, and asked again
abbrev pub questions_of : Attempt → Questions
questions_of a = record { asked = a.asked; again = a.again }

-- no more questions were asked than may be, and no more asked again
abbrev pub AreAllowed : ℕ → Questions → Type 0
AreAllowed budget asked = (asked.asked ≤ budget) × (asked.again ≤ budget)

-- an attempt by as many questions as `settle` is allowed: it names a cause that is so, by its own questions and bytes
pub record IsAttempt (a : Attempt) : Type 0 where
  pub allowed : AreAllowed settling_questions (questions_of a)
  pub cause : SpentCause
  pub named : a.cause ≡ unsettled_by cause
  pub over : Bool
  pub is_so : IsCause settling_questions (questions_of a) over a.bytes cause

-- the reply tells the counterexample of the answers that lead to a failing end, and what became of its operations
abbrev pub ExplainsCounter : Function → ObName → List Answer → Why → Reply → Type 0
ExplainsCounter f ob answers why r =
    (counter : Counter) × IsCounter f ob (answered_by answers) why counter
    × (r ≡ Explained (Breaks counter (steps_of f counter)))

-- the reply tells what settling came to, by so many questions and with so many bytes written: how long the proof is,
-- the counterexample, or why nothing is said
abbrev pub ExplainsSettled : Function → Level → Questions → ℕ → Settled → Reply → Type 0
ExplainsSettled f level asked written (outcomes.Yes bytes) r =
    r ≡ Explained (Holds level (grounds.Proof (length bytes.items)))
ExplainsSettled f level asked written (outcomes.No ob answers why) r = ExplainsCounter f ob answers.items why r
ExplainsSettled f level asked written (outcomes.Spent cause) r =
    r ≡ Explained (Open most_questions (attempt_of cause asked written))

-- the reply to a function of which `prove` says nothing: it is settled, by as many questions as `settle` is allowed
-- where the words do not say
abbrev pub IsReplyToUnproved : Function → Level → Reply → Type 0
IsReplyToUnproved f level r =
    (settled : Settled) × (asked : Questions) × (over : Bool) × (written : ℕ) × IsSettled f level settled
    × AreAllowed settling_questions asked × HasCause settling_questions asked over written settled
    × ExplainsSettled f level asked written settled r

-- the reply tells the verdict: how many questions there are, or the counterexample of the first failing end
abbrev pub ExplainsVerdict : Function → Level → Verdict → Reply → Type 0
ExplainsVerdict f level (verdicts.Yes bytes asked) r = r ≡ Explained (Holds level (grounds.Questions asked))
ExplainsVerdict f level (verdicts.No ob answers why) r = ExplainsCounter f ob answers.items why r
ExplainsVerdict f level verdicts.Spent r = IsReplyToUnproved f level r

-- the reply to a function at a level: it is decided by as many questions as `prove` is allowed where the words do not
-- say
abbrev pub IsReplyToExplained : Function → Level → Reply → Type 0
IsReplyToExplained f level r =
    (verdict : Verdict) × IsDecidedAs f level most_questions verdict × ExplainsVerdict f level verdict r

-- the reply to what a text is read as
abbrev pub IsReplyToRead : Level → List ℕ → Result Function TextFault → Reply → Type 0
IsReplyToRead level bytes (Err fault) r = r ≡ Explained (Misread fault (help_of bytes))
IsReplyToRead level bytes (Ok f) r = IsReplyToExplained f level r

unfoldable pub IsReplyToText : Level → List ℕ → Reply → Type 0
IsReplyToText level bytes r = IsReplyToRead level bytes (function_in bytes) r

-- the facts of the command
abbrev pub explain_facts : Level → List ℕ → Facts
explain_facts level function = record {
  opens = FunctionText function (IsReplyToText level);
  steady = NothingMore;
}
