-- Which reply two functions get of which the second one is to take back what the first one makes, and what it shows of
-- functions whose files are told.
use Rattle.std.specs.Prelude.{◌≡◌, ◌⊎◌, ℕ, ◌≤◌, List, length, Option, Some}
use Rattle.fn_rules.specs.Functions.{Function}
use Rattle.fn_grammar.specs.Grammar.{IsTextOf}
use Rattle.ot_replies.specs.declared.reply.FileKind.TheVariants as files
use Rattle.ot_replies.specs.declared.reply.Reply.{Reply}
use Rattle.ot_replies.specs.declared.reply.Reply.TheVariants.{Reversed, Unlike}
use Rattle.ot_replies.specs.declared.reply.Subject.TheVariants.{Second}
use Rattle.ot_replies.specs.Limits.{limit_of}
use Rattle.ot_replies.specs.ReversalTexts.{reversal_status, reversal_text, unlike_text}
use Rattle.ot_audit.specs.declared.back.Back.{Back}
use Rattle.ot_reverse.specs.Answers.{IsReversedAs}
use Rattle.ot_reverse.specs.Reversal.{AreAlike}
use Rattle.ot_words.specs.Commands.{Reverse}
use Rattle.ot_words.specs.Words.{asked_by, most_questions}
use Rattle.ot_commands.specs.Facts.{Facts, NothingMore, TwoFunctions}
use Rattle.ot_commands.specs.Load.{IsReplyToFunction}

-- the reply to two functions: they are of different modes or for different kinds; or else whether the second one takes
-- back what the first one makes, with so many questions for each ordered pair of kinds
abbrev pub IsReplyToReversal : Function → Function → Reply → Type 0
IsReplyToReversal f e r =
    ((AreAlike f.head e.head → ⊥) × (r ≡ Unlike))
    ⊎ ((back : Back) × AreAlike f.head e.head × IsReversedAs f e most_questions back × (r ≡ Reversed back))

-- the reply to the file of the second function
abbrev pub IsReplyToReverser : Function → Option (List ℕ) → Reply → Type 0
IsReplyToReverser f told r = IsReplyToFunction Second told (λ e. IsReplyToReversal f e r) r

-- the facts of the command
abbrev pub reverse_facts : List ℕ → List ℕ → Facts
reverse_facts function other = record { opens = TwoFunctions function other IsReplyToReversal; steady = NothingMore }

-- the words ask whether a second function takes back what the first one makes; where both files are told, are within
-- their limit and are texts of functions by the grammar, this was written of all documents: that mode or kinds differ,
-- that the second function reverses the first, or a document and two operations at which it does not
abbrev pub IsReversed : List (List ℕ) → (List ℕ → Option (List ℕ)) → (List ℕ → Type 0) → ℕ → Type 0
IsReversed words holds IsWritten status =
    (name other bytes contents : List ℕ) (f e : Function)
    → asked_by words ≡ Some (Reverse name other) → holds name ≡ Some bytes → holds other ≡ Some contents
    → length bytes ≤ limit_of files.Function → IsTextOf bytes f
    → length contents ≤ limit_of files.Function → IsTextOf contents e
    → ((AreAlike f.head e.head → ⊥) × (status ≡ 1) × IsWritten unlike_text)
    ⊎ ((back : Back) × AreAlike f.head e.head × IsReversedAs f e most_questions back × (status ≡ reversal_status back)
    × IsWritten (reversal_text back))
