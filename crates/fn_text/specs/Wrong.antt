-- The first wrong token of a file, and what the reader keeps of the tokens before it.
use Rattle.std.specs.Prelude.{ℕ, List, [], ◌∷◌, Option, Some, None, Ok, Err}
use Rattle.fn_rules.specs.declared.guard.Tightness.{Tightness}
use Rattle.fn_tokens.specs.declared.token.Placed.{Placed}
use Rattle.fn_tokens.specs.Tokens.{tokens_in}
use Rattle.fn_tokens.specs.Meaning.{Maker, to_formulas}
use Rattle.fn_text.specs.declared.wrong.WrongToken.{WrongToken}
use Rattle.fn_text.specs.Reader.{State, turn, first_state}

-- the first of these tokens that cannot go on behind what was read
abbrev pub wrong_from : {V : Tightness → Type 0} {K B : Type 0} → Maker V K B → State V K B → List Placed
    → Option WrongToken
wrong_from m s [] = None
wrong_from m s (at ∷ rest) =
    elim (turn m s at) [ Ok after ↦ wrong_from m after rest | Err fault ↦ Some record { control = s.control; at = at } ]

-- that of a file
abbrev pub wrong_in : List ℕ → Option WrongToken
wrong_in bytes = wrong_from to_formulas (first_state to_formulas) (tokens_in bytes)
