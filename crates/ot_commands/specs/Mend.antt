-- Which reply a function gets that is to be mended: the text of the one that the fewest edits lead to, or that none of
-- those that so many edits lead to has the level, or that there are too many.
use Rattle.std.specs.Prelude.{◌≡◌, ◌⊎◌, ℕ, true, false, List, Some}
use Rattle.std.specs.Prelude.{None as NoNumber}
use Rattle.fn_rules.specs.declared.function.Level.{Level}
use Rattle.fn_rules.specs.Functions.{Function}
use Rattle.fn_rules.specs.Rules.{function_of}
use Rattle.fn_grammar.specs.Grammar.{IsTextOf}
use Rattle.fn_grammar.specs.Print.{printed}
use Rattle.ot_mend.specs.Members.{function_after}
use Rattle.mend_texts.specs.Texts.{mended_text}
use Rattle.ot_decide.specs.declared.verdict.Verdict.{Verdict}
use Rattle.ot_decide.specs.declared.verdict.Verdict.TheVariants as verdicts
use Rattle.ot_decide.specs.Verdicts.{IsDecidedAs}
use Rattle.fewest_edits.specs.declared.decision.Decision.{Decision}
use Rattle.fewest_edits.specs.declared.decision.Decision.TheVariants as decisions
use Rattle.fewest_edits.specs.declared.mending.Mending.{Mending}
use Rattle.fewest_edits.specs.declared.mending.Mending.TheVariants as mendings
use Rattle.fewest_edits.specs.Mendings.{IsMendedBy}
use Rattle.ot_replies.specs.declared.reply.Reply.{Reply}
use Rattle.ot_replies.specs.declared.reply.Reply.TheVariants.{Mended, NotMended, Spent}
use Rattle.ot_words.specs.Words.{most_questions}
use Rattle.ot_commands.specs.Facts.{Facts, NothingMore, OneFunction}
use Rattle.ot_commands.specs.Found.{LacksTp1}
use Rattle.ot_commands.specs.Template.{has_none}

-- what a verdict says of the level
abbrev pub decision_of : Verdict → Decision
decision_of (verdicts.Yes bytes asked) = decisions.Yes
decision_of (verdicts.No ob answers why) = decisions.No
decision_of verdicts.Spent = decisions.Spent

-- a function is decided by as many questions as `prove` is allowed where the words do not say, or it lacks TP1 where
-- another one lacked it
abbrev pub IsDecidedSo : Level → Function → Decision → Type 0
IsDecidedSo level f d =
    ((verdict : Verdict) × IsDecidedAs f level most_questions verdict × (decision_of verdict ≡ d))
    ⊎ ((d ≡ decisions.No) × LacksTp1 f)

-- the reply tells what mending a function came to: the text of the one that edits lead to, one after another; or that
-- none of those of so many edits has the level; or that there are too many of them, or too many questions
abbrev pub TellsMending : Function → ℕ → Mending → Reply → Type 0
TellsMending f most (mendings.Found rules edits) r =
    (function_after edits.items f ≡ function_of rules)
    × IsTextOf (printed (function_of rules)) (function_of rules)
    × (r ≡ Mended (mended_text f edits.items))
TellsMending f most mendings.None r = r ≡ NotMended (Some most)
TellsMending f most mendings.Spent r = r ≡ Spent

-- the reply to a function by what mending it comes to
abbrev pub IsReplyToMending : Level → ℕ → ℕ → Function → Reply → Type 0
IsReplyToMending level most budget f r =
    (mending : Mending) × IsMendedBy (IsDecidedSo level) f most budget mending × TellsMending f most mending r

-- the reply to a function at a level, of at most so many edits and with this budget: that no head to which edits lead
-- can have the level, for they change what is assumed alone, or what mending it comes to
abbrev pub IsReplyToMend : Level → ℕ → ℕ → Function → Reply → Type 0
IsReplyToMend level most budget f r =
    ((has_none level f.head ≡ true) × (r ≡ NotMended NoNumber))
    ⊎ ((has_none level f.head ≡ false) × IsReplyToMending level most budget f r)

-- the facts of the command
abbrev pub mend_facts : Level → ℕ → ℕ → List ℕ → Facts
mend_facts level most budget function = record {
  opens = OneFunction function (IsReplyToMend level most budget);
  steady = NothingMore;
}
