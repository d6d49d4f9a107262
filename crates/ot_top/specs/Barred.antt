-- What no status shows: TP2 of a function that inserts and deletes on plain text.
use Rattle.std.specs.Prelude.{◌≡◌, ◌≢◌, ℕ, List, Option, Some}
use Rattle.fn_rules.specs.declared.function.Level.TheVariants.{Tp2}
use Rattle.fn_rules.specs.Functions.{Function}
use Rattle.fn_grammar.specs.Grammar.{IsTextOf}
use Rattle.ot_heads.specs.Heads.{InsertsAndDeletesOnPlain}
use Rattle.ot_words.specs.Words.{asked_by}
use Rattle.ot_top.specs.Evidence.{Evidence, asks_for}

-- the words ask for evidence of a function at level tp2; where its file is told and is, by the grammar, the text of one
-- for insertions and deletions on plain text, the status is not 0
abbrev pub IsBarred : Evidence → List (List ℕ) → (List ℕ → Option (List ℕ)) → ℕ → Type 0
IsBarred e words holds status =
    (budget : ℕ) (name bytes : List ℕ) (f : Function)
    → asked_by words ≡ Some (asks_for e Tp2 budget name) → holds name ≡ Some bytes → IsTextOf bytes f
    → InsertsAndDeletesOnPlain f.head → status ≢ 0
