-- The table of the two digits of each number below 100.
use Rattle.std.proofs.Common.{◌≡◌, ℕ, zero, suc, ◌+◌, ◌*◌, ◌/◌, ◌%◌, ◌<◌, Bool, true, false, ◌&&◌, ◌==◌, List, [], ◌∷◌}
use Rattle.std.proofs.Common.{length, get_or, arith, refl, sym, ap, ◌∙◌}
use Rattle.std.proofs.lemmas.Bool.Decides.{nat_tests}
use Rattle.pick_digits.specs.declared.tens.TheConstants.{DIGITS}

-- the bytes are, two by two, the digits of a number and of those after it
abbrev are_digits_from : ℕ → List ℕ → Bool
are_digits_from n [] = true
are_digits_from n (tens ∷ []) = false
are_digits_from n (tens ∷ units ∷ rest) =
    (tens == 48 + n / 10) && ((units == 48 + n % 10) && are_digits_from (suc n) rest)

both : (a b : Bool) → (a && b) ≡ true → (a ≡ true) × (b ≡ true)
both true b is = (refl, is)
both false b is = absurd (cc)

-- the digits of a number further on
digits_behind :
    (k n : ℕ) (bytes : List ℕ) → are_digits_from n bytes ≡ true → 2 * k + 1 < length bytes
    → (get_or bytes (2 * k) 0 ≡ 48 + (n + k) / 10) × (get_or bytes (2 * k + 1) 0 ≡ 48 + (n + k) % 10)
digits_behind k n [] are inside = absurd (omega arith)
digits_behind k n (tens ∷ []) are inside = absurd (omega arith)
digits_behind zero n (tens ∷ units ∷ rest) are inside =
    let first = both (tens == 48 + n / 10) ((units == 48 + n % 10) && are_digits_from (suc n) rest) are in
    let second = both (units == 48 + n % 10) (are_digits_from (suc n) rest) first.1 in
    let same : n + zero ≡ n = omega arith in
    let is_tens : tens ≡ 48 + n / 10 = grind (arith, nat_tests, first.0) in
    let is_units : units ≡ 48 + n % 10 = grind (arith, nat_tests, second.0) in
    (is_tens ∙ ap (λ (i : ℕ). 48 + i / 10) (sym same), is_units ∙ ap (λ (i : ℕ). 48 + i % 10) (sym same))
digits_behind (suc k) n (tens ∷ units ∷ rest) are inside =
    let first = both (tens == 48 + n / 10) ((units == 48 + n % 10) && are_digits_from (suc n) rest) are in
    let second = both (units == 48 + n % 10) (are_digits_from (suc n) rest) first.1 in
    let place : 2 * suc k ≡ suc (suc (2 * k)) = omega arith in
    let after : 2 * suc k + 1 ≡ suc (suc (2 * k + 1)) = omega arith in
    let next : suc n + k ≡ n + suc k = omega arith in
    let found = digits_behind k (suc n) rest second.1 (omega arith) in (
      ap (λ (i : ℕ). get_or (tens ∷ units ∷ rest) i 0) place ∙ found.0 ∙ ap (λ (i : ℕ). 48 + i / 10) next,
      ap (λ (i : ℕ). get_or (tens ∷ units ∷ rest) i 0) after ∙ found.1 ∙ ap (λ (i : ℕ). 48 + i % 10) next,
    )

-- the table has those of all numbers below 100
pub digits_at :
    (n : ℕ) → n < 100 → (get_or DIGITS (2 * n) 0 ≡ 48 + n / 10) × (get_or DIGITS (2 * n + 1) 0 ≡ 48 + n % 10)
digits_at n below =
    let found = digits_behind n 0 DIGITS refl (omega arith) in
    let same : 0 + n ≡ n = omega arith in
    (found.0 ∙ ap (λ (i : ℕ). 48 + i / 10) same, found.1 ∙ ap (λ (i : ℕ). 48 + i % 10) same)
