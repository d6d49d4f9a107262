-- What the grammar and the reader have to do with each other.
use Rattle.std.specs.Prelude.{◌≡◌, ℕ, List, [], ◌∷◌, Result, Ok, Err, IsTrue}
use Rattle.fn_rules.specs.declared.guard.Tightness.{Tightness}
use Rattle.fn_rules.specs.Functions.{Function}
use Rattle.fn_rules.specs.Validity.{is_valid}
use Rattle.fn_tokens.specs.declared.token.Placed.{Placed}
use Rattle.fn_tokens.specs.declared.fault.TextFault.{TextFault}
use Rattle.fn_tokens.specs.Meaning.{Maker}
use Rattle.fn_grammar.specs.Print.{printed}
use Rattle.fn_grammar.specs.Grammar.{IsTextOf}
use Rattle.fn_text.specs.Reader.{State, turn}
use Rattle.fn_text.specs.Reading.{function_in}

-- bytes that are the text of a function are read as that function
abbrev pub TextsAreRead : Type 0
TextsAreRead = (bytes : List ℕ) (f : Function) → IsTextOf bytes f → function_in bytes ≡ Ok f

-- no bytes are the text of two functions
abbrev pub TextsAreUnique : Type 0
TextsAreUnique = (bytes : List ℕ) (f g : Function) → IsTextOf bytes f → IsTextOf bytes g → f ≡ g

-- the canonical text of a function within the limits is read as that function
abbrev pub PrintsAreRead : Type 0
PrintsAreRead = (f : Function) → IsTrue (is_valid f) → function_in (printed f) ≡ Ok f

-- the state behind tokens that can all go on
abbrev pub state_behind : {V : Tightness → Type 0} {K B : Type 0} → Maker V K B → State V K B → List Placed
    → Result (State V K B) TextFault
state_behind m s [] = Ok s
state_behind m s (at ∷ rest) = elim (turn m s at) [ Ok after ↦ state_behind m after rest | Err fault ↦ Err fault ]
