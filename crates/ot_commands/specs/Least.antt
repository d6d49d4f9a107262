-- Which reply a function gets whose shortest document is sought on which it breaks a property.
use Rattle.std.specs.Prelude.{◌≡◌, ℕ, Bool, true, false, List}
use Rattle.diff_graph.specs.declared.lit.Lit.{Lit}
use Rattle.fn_rules.specs.declared.function.ObName.{ObName}
use Rattle.fn_rules.specs.Functions.{Function}
use Rattle.ot_questions.specs.declared.why.Why.{Why}
use Rattle.ot_prove.specs.Outcomes.{answered_by}
use Rattle.ot_counter.specs.declared.counter.Counter.{Counter}
use Rattle.ot_counter.specs.Counters.{IsCounter}
use Rattle.ot_least.specs.declared.short.Short.{Short}
use Rattle.ot_least.specs.declared.short.Short.TheVariants as shorts
use Rattle.ot_least.specs.Shortest.{IsShort, IsShortWithin, IsTrueOf}
use Rattle.ot_replies.specs.declared.reply.FileKind.TheVariants as files
use Rattle.ot_replies.specs.declared.reply.Reply.{Reply}
use Rattle.ot_replies.specs.declared.reply.Reply.TheVariants.{BoundTooLong, Certified, Shortest, Spent, Unbroken}
use Rattle.ot_replies.specs.Limits.{limit_of}
use Rattle.ot_words.specs.Words.{most_questions}
use Rattle.ot_commands.specs.Facts.{Facts, NothingMore, OneFunction}

-- the reply tells of the shortest documents: the bytes of the certificate that none is shorter, where that is asked
-- for, and otherwise the counterexample of the answers that lead to the end
abbrev pub ReplyTellsLeast : Function → Bool → ObName → List Lit → Why → ℕ → List ℕ → Reply → Type 0
ReplyTellsLeast f true ob w why cells bytes r = r ≡ Certified bytes
ReplyTellsLeast f false ob w why cells bytes r = (counter : Counter) × IsCounter f ob w why counter
    × (r ≡ Shortest counter cells)

-- the reply tells what the search comes to
abbrev pub TellsShort : Function → Bool → Short → Reply → Type 0
TellsShort f cert shorts.Fine r = r ≡ Unbroken
TellsShort f cert (shorts.Least ob answers why cells bytes) r =
    ReplyTellsLeast f cert ob (answered_by answers.items) why cells bytes.items r
TellsShort f cert shorts.TooLong r = r ≡ BoundTooLong
TellsShort f cert shorts.Spent r = r ≡ Spent

-- the reply to a function, with so many questions for each search; a certificate keeps the limit of its file
abbrev pub IsReplyToLeast : Function → Bool → Reply → Type 0
IsReplyToLeast f cert r =
    (short : Short) × IsShort f most_questions short × IsTrueOf f short
    × IsShortWithin (limit_of files.Certificate) short × TellsShort f cert short r

-- the facts of the command
abbrev pub least_facts : Bool → List ℕ → Facts
least_facts cert function = record {
  opens = OneFunction function (λ f r. IsReplyToLeast f cert r);
  steady = NothingMore;
}
