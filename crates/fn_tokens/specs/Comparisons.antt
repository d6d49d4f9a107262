-- Comparisons and offsets whose tokens are told by their bytes at once.
use Rattle.std.specs.Prelude.{◌≡◌, ℕ, ◌≤◌, Bool, List, ◌∷◌}
use Rattle.fn_rules.specs.declared.guard.Sort.{Sort}
use Rattle.fn_rules.specs.declared.guard.Sort.TheVariants.{Pos, Site, Char}
use Rattle.fn_rules.specs.declared.guard.Side.{Side}
use Rattle.fn_rules.specs.declared.guard.Side.TheVariants.{First, Second}
use Rattle.fn_rules.specs.declared.guard.Cmp.{Cmp}
use Rattle.fn_rules.specs.declared.guard.Cmp.TheVariants.{Lt, Le, Eq}
use Rattle.fn_rules.specs.Formulas.{other_side}
use Rattle.fn_tokens.specs.declared.token.Sign.{Sign}
use Rattle.fn_tokens.specs.declared.token.Sign.TheVariants.{Plus, Minus}
use Rattle.fn_tokens.specs.declared.token.Token.TheVariants.{Known, Number, Comparison}
use Rattle.fn_tokens.specs.declared.token.Token.TheVariants as kinds
use Rattle.fn_tokens.specs.declared.token.Word.TheVariants.{Thing}
use Rattle.fn_tokens.specs.declared.token.Placed.{Placed}
use Rattle.fn_tokens.specs.declared.lexer.Cursor.{Cursor}
use Rattle.fn_tokens.specs.declared.comparison.FrontComparison.{FrontComparison}
use Rattle.fn_tokens.specs.declared.comparison.FrontOffset.{FrontOffset}

-- what may be compared in each block
abbrev pub IsOfEach : Sort → Type 0
IsOfEach Pos = Unit {0}
IsOfEach Site = Unit {0}
IsOfEach Char = ⊥

-- tokens begin with the three of a comparison over positions or sites, and others are behind them
pub record BeginsWith (c : FrontComparison) (tokens behind : List Placed) : Type 0 where
  pub left : Placed
  pub sign : Placed
  pub right : Placed
  pub is : tokens ≡ left ∷ sign ∷ right ∷ behind
  pub left_is : left.token ≡ Known (Thing c.sort c.left)
  pub sign_is : sign.token ≡ Comparison c.cmp
  pub right_is : right.token ≡ Known (Thing c.sort (other_side c.left))
  pub sort : IsOfEach c.sort

-- tokens begin with the two of an offset, and others are behind them
pub record BeginsWithOffset (offset : FrontOffset) (tokens behind : List Placed) : Type 0 where
  pub sign : Placed
  pub number : Placed
  pub is : tokens ≡ sign ∷ number ∷ behind
  pub sign_is : sign.token ≡ kinds.Sign offset.sign
  pub number_is : number.token ≡ Number offset.number
  pub small : offset.number ≤ 99

-- a place in a line, where a token or nothing begins
abbrev pub place_in : ℕ → ℕ → Bool → Cursor
place_in line column after = record { line = line; column = column; after = after; skip = 0 }

-- the letter of a sort
abbrev pub letter_of : Sort → ℕ
letter_of Pos = 112
letter_of Site = 115
letter_of Char = 99

-- the digit of a side
abbrev pub digit_of : Side → ℕ
digit_of First = 49
digit_of Second = 50

-- the byte of a sign that has one
abbrev pub IsByteOf : Cmp → ℕ → Type 0
IsByteOf Lt byte = byte ≡ 60
IsByteOf Le byte = ⊥
IsByteOf Eq byte = byte ≡ 61

-- the byte of the sign of an offset
abbrev pub byte_of : Sign → ℕ
byte_of Plus = 43
byte_of Minus = 45
