-- What the statuses of `template` show.
use Rattle.std.specs.Prelude.{◌≡◌, ◌⊎◌, ℕ, List, Some}
use Rattle.fn_rules.specs.declared.function.Head.{Head}
use Rattle.fn_rules.specs.declared.function.Level.{Level}
use Rattle.fn_rules.specs.declared.function.Level.TheVariants.{Tp2}
use Rattle.fn_rules.specs.Functions.{Function}
use Rattle.fn_grammar.specs.Grammar.{IsTextOf}
use Rattle.ot_heads.specs.Transformations.{Transformation, KeepsOperations, HasTp1Of, HasTp2Of}
use Rattle.ot_replies.specs.Texts.{no_template_text}
use Rattle.ot_words.specs.Commands.{Template}
use Rattle.ot_words.specs.Words.{asked_by}
use Rattle.ot_top.specs.Shown.{HasLevel}

-- no transformation of the head that keeps operations has both properties
abbrev pub HasNone : Head → Type 0
HasNone head = (t : Transformation) → KeepsOperations t → ¬ (HasTp1Of head t × HasTp2Of head t)

-- the words ask for a function of a head: what was written is, by the grammar, the text of a function of that head that
-- has the level that is asked; or both properties are asked, no transformation of the head has both, and that was
-- written
abbrev pub IsTemplated : List (List ℕ) → (List ℕ → Type 0) → ℕ → Type 0
IsTemplated words IsWritten status =
    (level : Level) (head : Head) → asked_by words ≡ Some (Template level head)
    → ((status ≡ 0) × ((f : Function) × (bytes : List ℕ) × (f.head ≡ head) × HasLevel f level × IsTextOf bytes f
    × IsWritten bytes))
    ⊎ ((status ≡ 1) × (level ≡ Tp2) × HasNone head × IsWritten no_template_text)
