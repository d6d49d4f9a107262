-- Which reply a function gets that is to be proved: a certificate, a counterexample, or that its questions are too
-- many.
use Rattle.std.specs.Prelude.{◌≡◌, ℕ, ◌≤◌, List}
use Rattle.fn_rules.specs.declared.function.Level.{Level}
use Rattle.fn_rules.specs.declared.function.ObName.{ObName}
use Rattle.fn_rules.specs.Functions.{Function}
use Rattle.ot_prove.specs.declared.outcome.Answer.{Answer}
use Rattle.ot_prove.specs.Outcomes.{answered_by}
use Rattle.ot_questions.specs.declared.why.Why.{Why}
use Rattle.ot_decide.specs.declared.verdict.Verdict.{Verdict}
use Rattle.ot_decide.specs.declared.verdict.Verdict.TheVariants as verdicts
use Rattle.ot_decide.specs.Verdicts.{IsDecidedAs, IsVerdictWithin}
use Rattle.ot_counter.specs.declared.counter.Counter.{Counter}
use Rattle.ot_counter.specs.Counters.{IsCounter}
use Rattle.ot_replies.specs.declared.reply.FileKind.TheVariants as files
use Rattle.ot_replies.specs.declared.reply.Reply.{Reply}
use Rattle.ot_replies.specs.declared.reply.Reply.TheVariants.{Proved, Broken, Spent}
use Rattle.ot_replies.specs.Limits.{limit_of}
use Rattle.ot_words.specs.Words.{most_questions}
use Rattle.ot_commands.specs.Facts.{Facts, NothingMore, OneFunction}

-- the reply tells the counterexample of the answers that lead to a failing end
abbrev pub TellsCounter : Function → ObName → List Answer → Why → Reply → Type 0
TellsCounter f ob answers why r =
    (counter : Counter) × IsCounter f ob (answered_by answers) why counter × (r ≡ Broken counter)

-- the reply tells the verdict: the bytes of the certificate, or the counterexample of the first failing end
abbrev pub TellsVerdict : Function → Verdict → Reply → Type 0
TellsVerdict f (verdicts.Yes bytes asked) r = r ≡ Proved bytes.items
TellsVerdict f (verdicts.No ob answers why) r = TellsCounter f ob answers.items why r
TellsVerdict f verdicts.Spent r = r ≡ Spent

-- the reply to a function at a level, by so many questions at the most; where no more than those of the command are
-- allowed, a certificate keeps the limit of its file
abbrev pub IsReplyToProof : Function → Level → ℕ → Reply → Type 0
IsReplyToProof f level budget r =
    (verdict : Verdict)
    × IsDecidedAs f level budget verdict
    × (budget ≤ most_questions → IsVerdictWithin (limit_of files.Certificate) verdict)
    × TellsVerdict f verdict r

-- the facts of the command
abbrev pub prove_facts : Level → ℕ → List ℕ → Facts
prove_facts level budget function = record {
  opens = OneFunction function (λ f r. IsReplyToProof f level budget r);
  steady = NothingMore;
}
