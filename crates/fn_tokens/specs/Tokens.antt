-- Bytes as tokens with their places. The longest token is taken. Blanks and comments are passed over,
-- and a line without a token gives none.
use Rattle.std.specs.Prelude.{◌≡◌, ◌<◌, ◌≤◌, ℕ, ◌+◌, ◌-◌, ◌*◌, ◌^◌, ◌==◌, min}
use Rattle.std.specs.Prelude.{Bool, true, false, not, ◌&&◌, ◌||◌, if◌then◌else◌}
use Rattle.std.specs.Prelude.{List, [], ◌∷◌, ◌++◌, map, take, nat_lt, nat_le}
use Rattle.std.specs.List.{prefix_len}
use Rattle.fn_rules.specs.declared.guard.Cmp.TheVariants.{Lt, Le, Eq}
use Rattle.fn_tokens.specs.declared.token.Sign.TheVariants.{Plus, Minus}
use Rattle.fn_tokens.specs.declared.token.Token.{Token}
use Rattle.fn_tokens.specs.declared.token.Token.TheVariants.{Byte, Number, Comparison, Sign, Open, Close, Colon}
use Rattle.fn_tokens.specs.declared.token.Token.TheVariants.{LineEnd, FileEnd}
use Rattle.fn_tokens.specs.declared.token.Placed.{Placed}
use Rattle.fn_tokens.specs.declared.lexer.Cursor.{Cursor}
use Rattle.fn_tokens.specs.declared.lexer.FrontToken.{FrontToken}
use Rattle.fn_tokens.specs.declared.lexer.Run.{Run}
use Rattle.fn_tokens.specs.declared.lexer.Run.TheVariants as runs
use Rattle.fn_tokens.specs.Words.{word_token}

abbrev pub is_letter : ℕ → Bool
is_letter byte = nat_le 97 byte && nat_le byte 122

abbrev pub is_digit : ℕ → Bool
is_digit byte = nat_le 48 byte && nat_le byte 57

-- space, tab and carriage return
abbrev pub is_blank : ℕ → Bool
is_blank byte = byte == 32 || byte == 9 || byte == 13

abbrev pub is_line_end : ℕ → Bool
is_line_end byte = byte == 10

-- the number that digits go on to from a number, where all above 99 are told as 100
abbrev pub number_from : ℕ → List ℕ → ℕ
number_from number [] = number
number_from number (digit ∷ digits) = number_from (min 100 (10 * number + (digit - 48))) digits

-- the token of a sign of one byte
abbrev pub sign_token : ℕ → Token
sign_token byte =
    if byte == 61 then Comparison Eq else
    (if byte == 43 then Sign Plus else
    (if byte == 45 then Sign Minus else
    (if byte == 40 then Open else
    (if byte == 41 then Close else
    (if byte == 58 then Colon else Byte)))))

-- the bytes begin with an equals sign
abbrev pub begins_with_equals : List ℕ → Bool
begins_with_equals [] = false
begins_with_equals (byte ∷ rest) = byte == 61

-- what a run has: letters and digits, digits, or what a line has before its end
abbrev pub is_in : Run → ℕ → Bool
is_in runs.Word byte = is_letter byte || is_digit byte
is_in runs.Number byte = is_digit byte
is_in runs.Comment byte = not (is_line_end byte)

abbrev pub front_word : ℕ → List ℕ → ℕ → FrontToken
front_word byte rest more = record { token = word_token (byte ∷ take more rest); more = more }

abbrev pub front_number : ℕ → List ℕ → ℕ → FrontToken
front_number byte rest more =
    record { token = Number (number_from 0 (byte ∷ take more rest)); more = more }

abbrev pub front_less : List ℕ → FrontToken
front_less rest =
    if begins_with_equals rest then record { token = Comparison Le; more = 1 } else record
    { token = Comparison Lt; more = 0 }

-- the longest token at a byte that is no blank, no line's end and no number sign
unfoldable pub front_of : ℕ → List ℕ → FrontToken
front_of byte rest =
    if is_letter byte then front_word byte rest (prefix_len (is_in runs.Word) rest) else
    (if is_digit byte then front_number byte rest (prefix_len (is_in runs.Number) rest) else
    (if byte == 60 then front_less rest else record { token = sign_token byte; more = 0 }))

-- where the first byte stands
abbrev pub first_place : Cursor
first_place = record { line = 1; column = 1; after = false; skip = 0 }

abbrev pub placed_at : Cursor → Token → Placed
placed_at at token = record { token = token; line = at.line; column = at.column }

-- the end of a line, which is a token where the line has one
abbrev pub line_end_at : Cursor → List Placed
line_end_at at = if at.after then placed_at at LineEnd ∷ [] else []

-- one byte on in the same line
abbrev pub stepped : Cursor → Bool → ℕ → Cursor
stepped at after skip =
    record { line = at.line; column = at.column + 1; after = after; skip = skip }

-- the first byte of the next line
abbrev pub below : Cursor → Cursor
below at = record { line = at.line + 1; column = 1; after = false; skip = 0 }

-- the place behind a byte
abbrev pub cursor_after : Cursor → ℕ → List ℕ → Cursor
cursor_after at byte rest =
    if nat_lt 0 at.skip then stepped at at.after (at.skip - 1) else
    (if is_line_end byte then below at else
    (if is_blank byte then stepped at at.after 0 else
    (if byte == 35 then stepped at at.after (prefix_len (is_in runs.Comment) rest) else stepped at true
    (front_of byte rest).more)))

-- the tokens that begin at a byte: at most one
abbrev pub tokens_at : Cursor → ℕ → List ℕ → List Placed
tokens_at at byte rest =
    if nat_lt 0 at.skip then [] else
    (if is_line_end byte then line_end_at at else
    (if is_blank byte then [] else
    (if byte == 35 then [] else placed_at at (front_of byte rest).token ∷ [])))

-- the tokens of bytes from a place on
abbrev pub tokens_from : Cursor → List ℕ → List Placed
tokens_from at [] = line_end_at at ++ placed_at at FileEnd ∷ []
tokens_from at (byte ∷ rest) =
    tokens_at at byte rest ++ tokens_from (cursor_after at byte rest) rest

-- the tokens of a file
abbrev pub tokens_in : List ℕ → List Placed
tokens_in bytes = tokens_from first_place bytes

-- the tokens that are still to come of bytes from a place on, unless the file's end was told
abbrev pub tokens_left : Bool → Cursor → List ℕ → List Placed
tokens_left ended at bytes = if ended then [] else tokens_from at bytes

-- nothing is left of the token or comment that began last, and lines and columns
-- are no more than the bytes before them, and one
pub record IsPlaceIn (total passed : ℕ) (at : Cursor) : Type 0 where
  pub free : at.skip ≡ 0
  pub few : total < 2 ^ 31
  pub within : passed ≤ total
  pub line : at.line ≤ passed + 1
  pub column : at.column ≤ passed + 1

-- tokens that end with the file's end
pub record EndsFile (tokens : List Placed) : Type 0 where
  pub front : List Placed
  pub last : Placed
  pub is : tokens ≡ front ++ last ∷ []
  pub end : last.token ≡ FileEnd

-- the tokens of each file do
abbrev pub TokensEndFiles : Type 0
TokensEndFiles = (bytes : List ℕ) → EndsFile (tokens_in bytes)

-- tokens without their places
abbrev pub bare : List Placed → List Token
bare tokens = map (λ placed. placed.token) tokens
