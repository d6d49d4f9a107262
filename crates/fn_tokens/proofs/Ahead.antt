-- Comparisons and offsets at the front of bytes, and the tokens that they have.
use Rattle.std.proofs.Common.{◌≡◌, ℕ, ◌+◌, ◌*◌, ◌≤◌, Bool, true, false, List, [], ◌∷◌, length, take, drop, get_or, refl}
use Rattle.std.proofs.Common.{ap, ◌∙◌, subst, arith}
use Rattle.std.specs.List.{prefix_len}
use Rattle.fn_rules.specs.declared.guard.Sort.{Sort}
use Rattle.fn_rules.specs.declared.guard.Sort.TheVariants.{Pos, Site, Char}
use Rattle.fn_rules.specs.declared.guard.Side.{Side}
use Rattle.fn_rules.specs.declared.guard.Side.TheVariants.{First, Second}
use Rattle.fn_rules.specs.declared.guard.Cmp.{Cmp}
use Rattle.fn_rules.specs.declared.guard.Cmp.TheVariants.{Lt, Le, Eq}
use Rattle.fn_rules.specs.Formulas.{other_side}
use Rattle.fn_tokens.specs.declared.token.Sign.{Sign}
use Rattle.fn_tokens.specs.declared.token.Sign.TheVariants.{Plus, Minus}
use Rattle.fn_tokens.specs.declared.token.Token.TheVariants.{Known, Number, Comparison}
use Rattle.fn_tokens.specs.declared.token.Token.TheVariants as kinds
use Rattle.fn_tokens.specs.declared.token.Word.TheVariants.{Thing}
use Rattle.fn_tokens.specs.declared.comparison.FrontComparison.{FrontComparison}
use Rattle.fn_tokens.specs.Words.{word_token}
use Rattle.fn_tokens.specs.declared.lexer.Run.TheVariants as runs
use Rattle.fn_tokens.specs.Tokens.{is_digit, is_in, number_from, placed_at, front_of, tokens_from}
use Rattle.fn_tokens.specs.Comparisons.{BeginsWith, BeginsWithOffset, IsByteOf, IsOfEach, byte_of, digit_of, letter_of}
use Rattle.fn_tokens.specs.Comparisons.{place_in}
use Rattle.fn_tokens.proofs.LexesBack.{IsDigit, IsDigit-below, IsLetter, IsLetter-from_test}

-- so far behind the first byte stands the end
abbrev seven_on : ℕ → ℕ
seven_on column = column + 1 + 1 + 1 + 1 + 1 + 1 + 1

-- a word of two letters ends before such a byte
two_letters :
    (letter digit end line column : ℕ) (after : Bool) (rest : List ℕ)
    → IsLetter letter → is_in runs.Word digit ≡ true → is_in runs.Word end ≡ false
    → tokens_from (place_in line column after) (letter ∷ digit ∷ end ∷ rest)
    ≡ placed_at (place_in line column after) (word_token (letter ∷ digit ∷ []))
    ∷ tokens_from (place_in line (column + 1 + 1) true) (end ∷ rest)
unfolding front_of
two_letters letter digit end line column after rest is goes_on ends =
    let far : prefix_len (is_in runs.Word) (digit ∷ end ∷ rest) ≡ 1 = rw (goes_on, ends) refl in
    let first :
    tokens_from (place_in line column after) (letter ∷ digit ∷ end ∷ rest)
    ≡ placed_at (place_in line column after)
    (word_token (letter ∷ take (prefix_len (is_in runs.Word) (digit ∷ end ∷ rest)) (digit ∷ end ∷ rest)))
    ∷ tokens_from (record {
      line = line;
      column = column + 1;
      after = true;
      skip = prefix_len (is_in runs.Word)
          (digit ∷ end ∷ rest);
    }) (digit ∷ end ∷ rest) = rw (is.line_end, is.blank, is.comment, is.letter) refl in
    first
    ∙ ap (λ n. placed_at (place_in line column after) (word_token (letter ∷ take n (digit ∷ end ∷ rest)))
    ∷ tokens_from (record { line = line; column = column + 1; after = true; skip = n }) (digit ∷ end ∷ rest)) far

-- a sign of one byte before a space
one_byte :
    (cmp : Cmp) (sign line column : ℕ) (rest : List ℕ) → IsByteOf cmp sign
    → tokens_from (place_in line column true) (32 ∷ sign ∷ 32 ∷ rest)
    ≡ placed_at (place_in line (column + 1) true) (Comparison cmp)
    ∷ tokens_from (place_in line (column + 1 + 1 + 1) true) rest
unfolding front_of
one_byte Lt sign line column rest by = rw by refl
one_byte Le sign line column rest by = absurd by
one_byte Eq sign line column rest by = rw by refl

-- the two bytes of what is compared are its word
thing :
    (sort : Sort) (side : Side) (end line column : ℕ) (after : Bool) (rest : List ℕ) → IsOfEach sort
    → is_in runs.Word end ≡ false
    → tokens_from (place_in line column after) (letter_of sort ∷ digit_of side ∷ end ∷ rest)
    ≡ placed_at (place_in line column after) (Known (Thing sort side))
    ∷ tokens_from (place_in line (column + 1 + 1) true) (end ∷ rest)
unfolding word_token
thing Pos First end line column after rest each ends =
    two_letters 112 49 end line column after rest (IsLetter-from_test 112 refl) refl ends
thing Pos Second end line column after rest each ends =
    two_letters 112 50 end line column after rest (IsLetter-from_test 112 refl) refl ends
thing Site First end line column after rest each ends =
    two_letters 115 49 end line column after rest (IsLetter-from_test 115 refl) refl ends
thing Site Second end line column after rest each ends =
    two_letters 115 50 end line column after rest (IsLetter-from_test 115 refl) refl ends
thing Char side end line column after rest each ends = absurd each

-- the bytes of a comparison are its tokens
told :
    (c : FrontComparison) (sign end line column : ℕ) (after : Bool) (rest : List ℕ)
    → IsOfEach c.sort → IsByteOf c.cmp sign → is_in runs.Word end ≡ false
    → BeginsWith c
    (tokens_from (place_in line column after)
    (letter_of c.sort ∷ digit_of c.left ∷ 32 ∷ sign ∷ 32 ∷ letter_of c.sort ∷ digit_of (other_side c.left) ∷ end
    ∷ rest)) (tokens_from (place_in line (seven_on column) true) (end ∷ rest))
told c sign end line column after rest each by ends = record {
  left = placed_at (place_in line column after) (Known (Thing c.sort c.left));
  sign = placed_at (place_in line (column + 1 + 1 + 1) true) (Comparison c.cmp);
  right = placed_at (place_in line (column + 1 + 1 + 1 + 1 + 1) true) (Known (Thing c.sort (other_side c.left)));
  is = thing c.sort c.left 32 line column after _ each refl
      ∙ ap (λ ts. placed_at (place_in line column after) (Known (Thing c.sort c.left)) ∷ ts)
      (one_byte c.cmp sign line (column + 1 + 1) _ by
      ∙ ap (λ ts. placed_at (place_in line (column + 1 + 1 + 1) true) (Comparison c.cmp) ∷ ts)
      (thing c.sort (other_side c.left) end line (column + 1 + 1 + 1 + 1 + 1) true rest each ends));
  left_is = refl;
  sign_is = refl;
  right_is = refl;
  sort = each;
}

-- what bytes begin with, told of each of the first eight
pub ahead :
    (c : FrontComparison) (bytes : List ℕ) (line column : ℕ) (after : Bool) → 8 ≤ length bytes
    → get_or bytes 0 0 ≡ letter_of c.sort → get_or bytes 1 0 ≡ digit_of c.left → get_or bytes 2 0 ≡ 32
    → IsByteOf c.cmp (get_or bytes 3 0) → get_or bytes 4 0 ≡ 32 → get_or bytes 5 0 ≡ get_or bytes 0 0
    → get_or bytes 6 0 ≡ digit_of (other_side c.left) → is_in runs.Word (get_or bytes 7 0) ≡ false → IsOfEach c.sort
    → BeginsWith c (tokens_from (place_in line column after) bytes)
    (tokens_from (place_in line (column + 7) true) (drop 7 bytes))
ahead c [] line column after many _ _ _ _ _ _ _ _ _ = absurd (omega arith)
ahead c (x0 ∷ []) line column after many _ _ _ _ _ _ _ _ _ = absurd (omega arith)
ahead c (x0 ∷ x1 ∷ []) line column after many _ _ _ _ _ _ _ _ _ = absurd (omega arith)
ahead c (x0 ∷ x1 ∷ x2 ∷ []) line column after many _ _ _ _ _ _ _ _ _ = absurd (omega arith)
ahead c (x0 ∷ x1 ∷ x2 ∷ x3 ∷ []) line column after many _ _ _ _ _ _ _ _ _ = absurd (omega arith)
ahead c (x0 ∷ x1 ∷ x2 ∷ x3 ∷ x4 ∷ []) line column after many _ _ _ _ _ _ _ _ _ = absurd (omega arith)
ahead c (x0 ∷ x1 ∷ x2 ∷ x3 ∷ x4 ∷ x5 ∷ []) line column after many _ _ _ _ _ _ _ _ _ = absurd (omega arith)
ahead c (x0 ∷ x1 ∷ x2 ∷ x3 ∷ x4 ∷ x5 ∷ x6 ∷ []) line column after many _ _ _ _ _ _ _ _ _ = absurd (omega arith)
ahead c (x0 ∷ x1 ∷ x2 ∷ x3 ∷ x4 ∷ x5 ∷ x6 ∷ end ∷ rest) line column after many letter digit space sign
    space_too same other ends each =
    let seven : seven_on column ≡ column + 7 = omega arith in
    let letter_too : x5 ≡ letter_of c.sort = same ∙ letter in
    rw (letter, digit, space, space_too, letter_too, other)
    (subst (λ n. BeginsWith c
    (tokens_from (place_in line column after)
    (letter_of c.sort ∷ digit_of c.left ∷ 32 ∷ x3 ∷ 32 ∷ letter_of c.sort ∷ digit_of (other_side c.left) ∷ end ∷ rest))
    (tokens_from (place_in line n true) (end ∷ rest))) seven (told c x3 end line column after rest each sign ends))

-- a digit before such a byte, and two of them
digit :
    (byte end line column : ℕ) (after : Bool) (rest : List ℕ) → IsDigit byte → is_digit end ≡ false
    → tokens_from (place_in line column after) (byte ∷ end ∷ rest)
    ≡ placed_at (place_in line column after) (Number (number_from 0 (byte ∷ [])))
    ∷ tokens_from (place_in line (column + 1) true) (end ∷ rest)
unfolding front_of
digit byte end line column after rest is ends = rw (is.line_end, is.blank, is.comment, is.letter, is.digit, ends) refl

digits :
    (byte next end line column : ℕ) (after : Bool) (rest : List ℕ) → IsDigit byte → IsDigit next → is_digit end ≡ false
    → tokens_from (place_in line column after) (byte ∷ next ∷ end ∷ rest)
    ≡ placed_at (place_in line column after) (Number (number_from 0 (byte ∷ next ∷ [])))
    ∷ tokens_from (place_in line (column + 1 + 1) true) (end ∷ rest)
unfolding front_of
digits byte next end line column after rest is is_too ends =
    rw (is.line_end, is.blank, is.comment, is.letter, is.digit, is_too.digit, ends) refl

-- a sign between spaces
sign_there :
    (sign : Sign) (line column : ℕ) (rest : List ℕ)
    → tokens_from (place_in line column true) (32 ∷ byte_of sign ∷ 32 ∷ rest)
    ≡ placed_at (place_in line (column + 1) true) (kinds.Sign sign)
    ∷ tokens_from (place_in line (column + 1 + 1 + 1) true) rest
unfolding front_of
sign_there Plus line column rest = refl
sign_there Minus line column rest = refl

pub short_offset :
    (sign : Sign) (value : ℕ) (bytes : List ℕ) (line column : ℕ) → 6 ≤ length bytes
    → get_or bytes 0 0 ≡ 32 → get_or bytes 1 0 ≡ byte_of sign → get_or bytes 2 0 ≡ 32
    → get_or bytes 3 0 ≡ 48 + value → value ≤ 9
    → is_digit (get_or bytes 4 0) ≡ false
    → BeginsWithOffset (record { sign = sign; number = value }) (tokens_from (place_in line column true) bytes)
    (tokens_from (place_in line (column + 4) true) (drop 4 bytes))
short_offset sign value [] line column many _ _ _ _ _ _ = absurd (omega arith)
short_offset sign value (x0 ∷ []) line column many _ _ _ _ _ _ = absurd (omega arith)
short_offset sign value (x0 ∷ x1 ∷ []) line column many _ _ _ _ _ _ = absurd (omega arith)
short_offset sign value (x0 ∷ x1 ∷ x2 ∷ []) line column many _ _ _ _ _ _ = absurd (omega arith)
short_offset sign value (x0 ∷ x1 ∷ x2 ∷ x3 ∷ []) line column many _ _ _ _ _ _ = absurd (omega arith)
short_offset sign value (x0 ∷ x1 ∷ x2 ∷ x3 ∷ end ∷ rest) line column many space signs space_too first small ends =
    record {
      sign = placed_at (place_in line (column + 1) true) (kinds.Sign sign);
      number = placed_at (place_in line (column + 1 + 1 + 1) true) (Number value);
      is =
          let four : column + 1 + 1 + 1 + 1 ≡ column + 4 = omega arith in
          let told : number_from 0 ((48 + value) ∷ []) ≡ value = omega arith in
          rw (space, signs, space_too, first)
          (sign_there sign line column _
          ∙ ap (λ ts. placed_at (place_in line (column + 1) true) (kinds.Sign sign) ∷ ts)
          (digit (48 + value) end line (column + 1 + 1 + 1) true rest (IsDigit-below value (omega arith)) ends
          ∙ ap (λ n. placed_at (place_in line (column + 1 + 1 + 1) true) (Number n)
          ∷ tokens_from (place_in line (column + 1 + 1 + 1 + 1) true) (end ∷ rest)) told
          ∙ ap (λ n. placed_at (place_in line (column + 1 + 1 + 1) true) (Number value)
          ∷ tokens_from (place_in line n true) (end ∷ rest)) four));
      sign_is = refl;
      number_is = refl;
      small = omega arith;
    }

pub long_offset :
    (sign : Sign) (value next : ℕ) (bytes : List ℕ) (line column : ℕ) → 6 ≤ length bytes
    → get_or bytes 0 0 ≡ 32 → get_or bytes 1 0 ≡ byte_of sign → get_or bytes 2 0 ≡ 32
    → get_or bytes 3 0 ≡ 48 + value → value ≤ 9
    → get_or bytes 4 0 ≡ 48 + next → next ≤ 9 → is_digit (get_or bytes 5 0) ≡ false
    → BeginsWithOffset (record { sign = sign; number = 10 * value + next })
    (tokens_from (place_in line column true) bytes) (tokens_from (place_in line (column + 5) true) (drop 5 bytes))
long_offset sign value next [] line column many _ _ _ _ _ _ _ _ = absurd (omega arith)
long_offset sign value next (x0 ∷ []) line column many _ _ _ _ _ _ _ _ = absurd (omega arith)
long_offset sign value next (x0 ∷ x1 ∷ []) line column many _ _ _ _ _ _ _ _ = absurd (omega arith)
long_offset sign value next (x0 ∷ x1 ∷ x2 ∷ []) line column many _ _ _ _ _ _ _ _ = absurd (omega arith)
long_offset sign value next (x0 ∷ x1 ∷ x2 ∷ x3 ∷ []) line column many _ _ _ _ _ _ _ _ = absurd (omega arith)
long_offset sign value next (x0 ∷ x1 ∷ x2 ∷ x3 ∷ x4 ∷ []) line column many _ _ _ _ _ _ _ _ = absurd (omega arith)
long_offset sign value next (x0 ∷ x1 ∷ x2 ∷ x3 ∷ x4 ∷ end ∷ rest) line column many space signs space_too first small
    second small_too ends = record {
      sign = placed_at (place_in line (column + 1) true) (kinds.Sign sign);
      number = placed_at (place_in line (column + 1 + 1 + 1) true) (Number (10 * value + next));
      is =
          let five : column + 1 + 1 + 1 + 1 + 1 ≡ column + 5 = omega arith in
          let told : number_from 0 ((48 + value) ∷ (48 + next) ∷ []) ≡ 10 * value + next = omega arith in
          rw (space, signs, space_too, first, second)
          (sign_there sign line column _
          ∙ ap (λ ts. placed_at (place_in line (column + 1) true) (kinds.Sign sign) ∷ ts)
          (digits (48 + value) (48 + next) end line (column + 1 + 1 + 1) true rest (IsDigit-below value (omega arith))
          (IsDigit-below next (omega arith)) ends
          ∙ ap (λ n. placed_at (place_in line (column + 1 + 1 + 1) true) (Number n)
          ∷ tokens_from (place_in line (column + 1 + 1 + 1 + 1 + 1) true) (end ∷ rest)) told
          ∙ ap (λ n. placed_at (place_in line (column + 1 + 1 + 1) true) (Number (10 * value + next))
          ∷ tokens_from (place_in line n true) (end ∷ rest)) five));
      sign_is = refl;
      number_is = refl;
      small = omega arith;
    }
