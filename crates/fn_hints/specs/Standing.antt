-- Which tokens may stand where one is wrong.
use Rattle.std.specs.Prelude.{◌≡◌, ◌↔◌, ℕ, Bool, false, is_some, IsTrue, List, ◌∷◌, ◌++◌, reverse, filter, Contains}
use Rattle.std.specs.Prelude.{Some}
use Rattle.fn_tokens.specs.declared.token.Token.{Token}
use Rattle.fn_tokens.specs.declared.token.Token.TheVariants as kinds
use Rattle.fn_tokens.specs.declared.token.Placed.{Placed}
use Rattle.fn_tokens.specs.Tokens.{bare, tokens_in}
use Rattle.fn_tokens.specs.declared.control.Want.{Want}
use Rattle.fn_tokens.specs.declared.control.Want.TheVariants as wants
use Rattle.fn_tokens.specs.Languages.{language_numbered}
use Rattle.fn_tokens.specs.Meaning.{is_offset_number}
use Rattle.fn_tokens.specs.Moves.{move_for}
use Rattle.fn_text.specs.declared.wrong.WrongToken.{WrongToken}
use Rattle.fn_text.specs.GoingOn.{CanGoOn}
use Rattle.fn_text.specs.Wrong.{wrong_in}
use Rattle.fn_hints.specs.declared.standing.Numbers.{Numbers}
use Rattle.fn_hints.specs.declared.standing.Numbers.TheVariants.{NoNumber, OfLanguages, UpTo99}
use Rattle.fn_hints.specs.declared.standing.TheConstants.{TOKENS}

-- the token does something in place of the wrong one
abbrev pub can_stand : WrongToken → Token → Bool
can_stand wrong token =
    is_some (move_for wrong.control (record wrong.at { token = token }) wrong.control.want token)

-- the words, signs and ends that do
abbrev pub tokens_at : WrongToken → List Token
tokens_at wrong = filter (can_stand wrong) TOKENS

-- the numbers that do
abbrev pub numbers_at : Want → Numbers
numbers_at wants.Version = OfLanguages
numbers_at (wants.Number left cmp sign) = UpTo99
numbers_at (wants.ResultNumber side sign) = UpTo99
numbers_at _ = NoNumber

abbrev pub has_number : Numbers → ℕ → Bool
has_number NoNumber n = false
has_number OfLanguages n = is_some (language_numbered n)
has_number UpTo99 n = is_offset_number n

-- any token at all: a number is told by the numbers, and every other one stands in the list
abbrev pub MayStand : List Token → Numbers → Token → Type 0
MayStand tokens numbers (kinds.Number n) = IsTrue (has_number numbers n)
MayStand tokens numbers token = Contains tokens token

-- the first wrong token of some tokens: those before it can go on, with it they can not, and those that may stand in
-- its place are exactly the ones with which they can
pub record IsToldOf (tokens : List Placed) (wrong : WrongToken) : Type 0 where
  pub before : List Placed
  pub behind : List Placed
  pub parts : tokens ≡ before ++ wrong.at ∷ behind
  pub goes_on : CanGoOn (bare (reverse before))
  pub stops : ¬ (CanGoOn (wrong.at.token ∷ bare (reverse before)))
  pub others : (token : Token) → MayStand (tokens_at wrong) (numbers_at wrong.control.want) token
      ↔ CanGoOn (token ∷ bare (reverse before))

-- so it is of each file
abbrev pub WrongTokensAreTold : Type 0
WrongTokensAreTold =
    (bytes : List ℕ) (wrong : WrongToken) → wrong_in bytes ≡ Some wrong → IsToldOf (tokens_in bytes) wrong
