-- What the canonical text has to do with the grammar.
use Rattle.std.specs.Prelude.{◌≡◌, ℕ, ◌+◌, ◌≤◌, List, [], ◌∷◌, ◌++◌, IsTrue}
use Rattle.fn_rules.specs.declared.guard.Tightness.TheVariants.{Loose}
use Rattle.fn_rules.specs.Formulas.{Formula}
use Rattle.fn_rules.specs.Functions.{Function}
use Rattle.fn_rules.specs.Validity.{is_valid}
use Rattle.fn_tokens.specs.declared.token.Token.{Token}
use Rattle.fn_tokens.specs.declared.token.Token.TheVariants.{Open, FileEnd}
use Rattle.fn_tokens.specs.Tokens.{tokens_in, bare}
use Rattle.fn_tokens.specs.Meaning.{to_formulas}
use Rattle.fn_grammar.specs.Print.{guard_tokens, function_tokens, printed}
use Rattle.fn_grammar.specs.Grammar.{Phrase, written_as, made, IsTextOf}

-- the canonical text of each function within the limits has the function's tokens
abbrev pub LexesBack : Type 0
LexesBack = (f : Function) → IsTrue (is_valid f) → bare (tokens_in (printed f)) ≡ function_tokens f ++ FileEnd ∷ []

-- the canonical text of a function within the limits is a text of the function
abbrev pub PrintsAreTexts : Type 0
PrintsAreTexts = (f : Function) → IsTrue (is_valid f) → IsTextOf (printed f) f

-- a text is of a function within the limits
abbrev pub TextsAreValid : Type 0
TextsAreValid = (bytes : List ℕ) (f : Function) → IsTextOf bytes f → IsTrue (is_valid f)

-- the pairs of parentheses among tokens
abbrev pub parentheses_in : List Token → ℕ
parentheses_in [] = 0
parentheses_in (Open ∷ tokens) = 1 + parentheses_in tokens
parentheses_in (token ∷ tokens) = parentheses_in tokens

-- no phrase that means a guard has fewer parentheses than the guard's canonical text
abbrev pub PrintsHaveFewestParentheses : Type 0
PrintsHaveFewestParentheses =
    (g : Formula) (p : Phrase Loose) → made to_formulas p ≡ g
    → parentheses_in (guard_tokens Loose g) ≤ parentheses_in (written_as p)
