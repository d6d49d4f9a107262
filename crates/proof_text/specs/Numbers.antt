-- Numbers at the front of some bytes: decimal, without leading zeros.
use Rattle.std.specs.Prelude.{ℕ, ◌+◌, ◌-◌, ◌*◌, nat_eq, nat_lt, ◌&&◌, if◌then◌else◌, ℤ, pos, neg_ℤ, List, [], ◌∷◌}
use Rattle.std.specs.Char.{is_ascii_digit}
use Rattle.proof_text.specs.declared.unread.Unread.TheVariants.{Misspelt, Cut}
use Rattle.proof_text.specs.Fronts.{Parsed, Found, Missing, and_then, found_as, fixed_front}

-- the number whose digits so far are those of `n`, up to the first byte that is no digit. A digit may follow where the
-- number is not 0 and below `short`
abbrev pub digits_front : ℕ → ℕ → List ℕ → Parsed ℕ
digits_front short n [] = Missing Cut
digits_front short n (b ∷ bytes) =
    if is_ascii_digit b then (
    if nat_lt 0 n && nat_lt n short then digits_front short (n * 10 + (b - 48)) bytes else Missing Misspelt)
    else Found n (b ∷ bytes)

-- a number, to which one below `short` may have a further digit
abbrev pub number_front : ℕ → List ℕ → Parsed ℕ
number_front short [] = Missing Cut
number_front short (b ∷ bytes) = if is_ascii_digit b then digits_front short (b - 48) bytes else Missing Misspelt

-- a number and the byte that ends it
abbrev pub number_before : ℕ → ℕ → List ℕ → Parsed ℕ
number_before stop short bytes =
    and_then (number_front short bytes) (λ n rest. found_as (λ x. n) (fixed_front (stop ∷ []) rest))

-- a number other than 0, of at most four digits
abbrev pub positive_front : List ℕ → Parsed ℕ
positive_front [] = Missing Cut
positive_front (b ∷ bytes) = if nat_eq b 48 then Missing Misspelt else number_front 1000 (b ∷ bytes)

-- an integer of at most four digits, after `-` where it is negative
abbrev pub offset_front : List ℕ → Parsed ℤ
offset_front [] = Missing Cut
offset_front (b ∷ bytes) =
    if nat_eq b 45 then found_as (λ n. neg_ℤ (pos n)) (positive_front bytes)
    else found_as pos (number_front 1000 (b ∷ bytes))
