-- What the statuses of `mend` show of a function whose file is told.
use Rattle.std.specs.Prelude.{◌≡◌, ◌⊎◌, ℕ, ◌≤◌, List, ◌++◌, length, Option, Some}
use Rattle.std.specs.Prelude.{None as NoNumber}
use Rattle.fn_rules.specs.declared.function.Head.{Head}
use Rattle.fn_rules.specs.declared.function.Level.{Level}
use Rattle.fn_rules.specs.declared.function.Level.TheVariants.{Tp1, Tp2}
use Rattle.fn_rules.specs.Functions.{Function}
use Rattle.fn_rules.specs.Rules.{function_of}
use Rattle.fn_grammar.specs.Grammar.{IsTextOf}
use Rattle.fn_grammar.specs.Print.{printed}
use Rattle.ot_mend.specs.Members.{function_after}
use Rattle.mend_texts.specs.Texts.{comment_lines}
use Rattle.fewest_edits.specs.declared.decision.Decision.{Decision}
use Rattle.fewest_edits.specs.declared.decision.Decision.TheVariants as decisions
use Rattle.fewest_edits.specs.declared.mending.Mending.{Mending}
use Rattle.fewest_edits.specs.declared.mending.Mending.TheVariants as mendings
use Rattle.fewest_edits.specs.Mendings.{IsMendedBy}
use Rattle.ot_replies.specs.declared.reply.FileKind.TheVariants as files
use Rattle.ot_replies.specs.declared.reply.Reply.TheVariants.{Spent}
use Rattle.ot_replies.specs.Limits.{limit_of}
use Rattle.ot_replies.specs.MendTexts.{not_mended_text}
use Rattle.ot_replies.specs.Texts.{text_of}
use Rattle.ot_words.specs.Commands.{Mend}
use Rattle.ot_words.specs.Words.{asked_by}
use Rattle.ot_top.specs.Explained.{HasManyQuestions}
use Rattle.ot_top.specs.Shown.{HasLevel}
use Rattle.ot_top.specs.Templated.{HasNone}

-- a head to which edits of a function lead has its mode and its kinds, and assumes whatever
pub record IsLedTo (head other : Head) : Type 0 where
  pub mode : other.mode ≡ head.mode
  pub inserts : other.ins ≡ head.ins
  pub deletes : other.del ≡ head.del
  pub updates : other.upd ≡ head.upd

-- no transformation of such a head that keeps operations has the level
abbrev pub CannotBeHad : Level → Head → Type 0
CannotBeHad Tp1 head = ⊥
CannotBeHad Tp2 head = (other : Head) → IsLedTo head other → HasNone other

-- some function of the head has it
abbrev pub CanBeHad : Level → Head → Type 0
CanBeHad level head = (g : Function) × (g.head ≡ head) × HasLevel g level

-- what is decided of a function at a level is so: it has the level, or it has not, or its obligations ask more
-- questions than `prove` may ask
abbrev pub IsSo : Level → Function → Decision → Type 0
IsSo level f decisions.Yes = HasLevel f level
IsSo level f decisions.No = ¬ HasLevel f level
IsSo level f decisions.Spent = HasManyQuestions f level

-- the status and what was written are those of what mending the function came to: the function that the edits lead to
-- is found, and a comment line for each edit and then its text were written; or there is none; or nothing is known
abbrev pub ShowsMending : Function → ℕ → (List ℕ → Type 0) → ℕ → Mending → Type 0
ShowsMending f most IsWritten status (mendings.Found rules edits) =
    (status ≡ 0) × (function_after edits.items f ≡ function_of rules)
    × IsTextOf (printed (function_of rules)) (function_of rules)
    × IsWritten (comment_lines f edits.items ++ printed (function_of rules))
ShowsMending f most IsWritten status mendings.None = (status ≡ 1) × IsWritten (not_mended_text (Some most))
ShowsMending f most IsWritten status mendings.Spent = (status ≡ 8) × IsWritten (text_of Spent)

-- the words ask to mend a function; where its file is told, is within its limit and is the text of a function by the
-- grammar, no transformation of a head to which edits lead has the level, and this was written; or some function of its
-- head has it, and the status and what was written are those of what mending it comes to: of the functions to which at
-- most so many edits lead, the one that has the level and comes first of those that do, by the number of edits, its
-- rank and its place; or that none has it; or that nothing is known of the first that may have it, or that a number of
-- edits leads to more functions than the budget
abbrev pub IsMended : List (List ℕ) → (List ℕ → Option (List ℕ)) → (List ℕ → Type 0) → ℕ → Type 0
IsMended words holds IsWritten status =
    (level : Level) (most budget : ℕ) (name bytes : List ℕ) (f : Function)
    → asked_by words ≡ Some (Mend level most budget name) → holds name ≡ Some bytes
    → length bytes ≤ limit_of files.Function → IsTextOf bytes f
    → ((status ≡ 1) × CannotBeHad level f.head × IsWritten (not_mended_text NoNumber))
    ⊎ (CanBeHad level f.head
    × ((mending : Mending) × IsMendedBy (IsSo level) f most budget mending
    × ShowsMending f most IsWritten status mending))
