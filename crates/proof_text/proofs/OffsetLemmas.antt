-- Integers are found exactly where they stand with no digit behind them.
use Rattle.std.proofs.Common.{◌≡◌, ◌≢◌, ⊎_elim, ℕ, zero, suc, ◌+◌, ◌<◌, true, false, ℤ, pos, negsuc, List, [], ◌∷◌}
use Rattle.std.proofs.Common.{◌++◌, get_or, refl, sym, ap, ◌∙◌, arith, subst}
use Rattle.std.proofs.lemmas.Fmt.{decimal_digit, first_decimal}
use Rattle.std.specs.Prelude.{nat_eq, neg_ℤ}
use Rattle.std.specs.Fmt.{decimal}
use Rattle.proof_text.specs.declared.unread.Unread.TheVariants.{Misspelt, Cut}
use Rattle.proof_text.specs.Fronts.{Found, Missing, found_as}
use Rattle.proof_text.specs.Numbers.{number_front, offset_front, positive_front}
use Rattle.proof_text.specs.Spelling.{IsShortOffset, offset_text}
use Rattle.proof_text.proofs.Spells.{Spells, cut_is_not_misspelt, found_as_found, found_as_missing}
use Rattle.proof_text.proofs.Spells.{found_is_not_missing}
use Rattle.proof_text.proofs.NumberLemmas.{NoDigitNext, numbers_spelled}
use Rattle.proof_text.proofs.FixedLemmas.{other_byte, same_byte_or_not}

small : Spells (number_front 1000) decimal (λ n. n < 10000) NoDigitNext
small = numbers_spelled 1000 (omega arith) (omega arith)

zero_text : decimal 0 ≡ 48 ∷ []
zero_text = decimal_digit 0 (omega arith)

same_head : (a b : ℕ) (xs ys : List ℕ) → a ∷ xs ≡ b ∷ ys → a ≡ b
same_head a b xs ys is = cc

-- a number other than 0
positive_step : (b : ℕ) (bytes : List ℕ) → nat_eq b 48 ≡ false
    → positive_front (b ∷ bytes) ≡ number_front 1000 (b ∷ bytes)
positive_step b bytes other = rw other refl

positive_zero : (b : ℕ) (bytes : List ℕ) → nat_eq b 48 ≡ true → positive_front (b ∷ bytes) ≡ Missing Misspelt
positive_zero b bytes is = rw is refl

positive_along : (l rest : List ℕ) → 48 < get_or l 0 0 → positive_front (l ++ rest) ≡ number_front 1000 (l ++ rest)
positive_along [] rest high = absurd (omega arith)
positive_along (b ∷ l) rest high = positive_step b (l ++ rest) (other_byte b 48 (λ e. omega (arith, high)))

-- what begins with no 0 is not 0
is_positive : (n b : ℕ) (bytes rest : List ℕ) → b ≢ 48 → b ∷ bytes ≡ decimal n ++ rest → 0 < n
is_positive zero b bytes rest other is =
    absurd (other (same_head b 48 bytes rest (is ∙ ap (λ (l : List ℕ). l ++ rest) zero_text)))
is_positive (suc n) b bytes rest other is = omega arith

begins_positive : (n b : ℕ) (bytes more : List ℕ) → b ≢ 48 → decimal n ≡ b ∷ bytes ++ more → 0 < n
begins_positive zero b bytes more other is = absurd (other (same_head b 48 (bytes ++ more) [] (sym is ∙ zero_text)))
begins_positive (suc n) b bytes more other is = omega arith

-- a positive number is found exactly where its digits stand and no digit follows
pub positives_spelled : Spells positive_front decimal (λ n. (0 < n) × (n < 10000)) NoDigitNext
positives_spelled =
    record {
      written = λ n rest short behind.
          positive_along (decimal n) rest (first_decimal n short.0 (omega (arith, short.1)))
          ∙ small.written n rest short.1 behind;
      read = λ n bytes rest is. read n bytes rest is;
      behind = small.behind;
      cut = λ bytes is. cut bytes is;
      misspelt = λ bytes more is. misspelt bytes more is;
    }
  where
    read : (n : ℕ) (bytes rest : List ℕ) → positive_front bytes ≡ Found n rest
        → ((0 < n) × (n < 10000)) × NoDigitNext rest × (bytes ≡ decimal n ++ rest)
    read n [] rest is = absurd (found_is_not_missing n rest Cut (sym is))
    read n (b ∷ bytes) rest is =
        ⊎_elim
        (λ (h : (nat_eq b 48 ≡ true) × (b ≡ 48)).
        absurd (found_is_not_missing n rest Misspelt (sym is ∙ positive_zero b bytes h.0)))
        (λ (h : (nat_eq b 48 ≡ false) × (b ≢ 48)).
        let r = small.read n (b ∷ bytes) rest (sym (positive_step b bytes h.0) ∙ is) in
        ((is_positive n b bytes rest h.1 r.2, r.0), r.1, r.2))
        (same_byte_or_not b 48)

    cut : (bytes : List ℕ) → positive_front bytes ≡ Missing Cut
        → (n : ℕ) × (more : List ℕ) × ((0 < n) × (n < 10000)) × (decimal n ≡ bytes ++ more)
    cut [] is = (1, decimal 1, (omega arith, omega arith), refl)
    cut (b ∷ bytes) is =
        ⊎_elim
        (λ (h : (nat_eq b 48 ≡ true) × (b ≡ 48)).
        absurd (cut_is_not_misspelt (positive_front (b ∷ bytes)) is (positive_zero b bytes h.0)))
        (λ (h : (nat_eq b 48 ≡ false) × (b ≢ 48)).
        let c = small.cut (b ∷ bytes) (sym (positive_step b bytes h.0) ∙ is) in
        (c.0, c.1, (begins_positive c.0 b bytes c.1 h.1 c.3, c.2), c.3))
        (same_byte_or_not b 48)

    misspelt : (bytes more : List ℕ) → positive_front bytes ≡ Missing Misspelt
        → positive_front (bytes ++ more) ≡ Missing Misspelt
    misspelt [] more is = absurd (cut_is_not_misspelt (positive_front []) refl is)
    misspelt (b ∷ bytes) more is =
        ⊎_elim
        (λ (h : (nat_eq b 48 ≡ true) × (b ≡ 48)). positive_zero b (bytes ++ more) h.0)
        (λ (h : (nat_eq b 48 ≡ false) × (b ≢ 48)).
        positive_step b (bytes ++ more) h.0 ∙ small.misspelt (b ∷ bytes) more (sym (positive_step b bytes h.0) ∙ is))
        (same_byte_or_not b 48)

-- an integer
offset_minus : (b : ℕ) (bytes : List ℕ) → nat_eq b 45 ≡ true
    → offset_front (b ∷ bytes) ≡ found_as (λ n. neg_ℤ (pos n)) (positive_front bytes)
offset_minus b bytes is = rw is refl

offset_plain : (b : ℕ) (bytes : List ℕ) → nat_eq b 45 ≡ false
    → offset_front (b ∷ bytes) ≡ found_as pos (number_front 1000 (b ∷ bytes))
offset_plain b bytes other = rw other refl

offset_along : (l rest : List ℕ) → 45 < get_or l 0 0
    → offset_front (l ++ rest) ≡ found_as pos (number_front 1000 (l ++ rest))
offset_along [] rest high = absurd (omega arith)
offset_along (b ∷ l) rest high = offset_plain b (l ++ rest) (other_byte b 45 (λ e. omega (arith, high)))

first_is_high : (n : ℕ) → n < 10000 → 45 < get_or (decimal n) 0 0
first_is_high zero below = rw zero_text (omega arith)
first_is_high (suc n) below = let high = first_decimal (suc n) (omega arith) (omega arith) in omega (arith, high)

-- a negated number
negated : (n : ℕ) → 0 < n → n < 10000 → IsShortOffset (neg_ℤ (pos n)) × (offset_text (neg_ℤ (pos n)) ≡ 45 ∷ decimal n)
negated zero some below = absurd (omega arith)
negated (suc n) some below = (omega arith, ap (λ (k : ℕ). 45 ∷ decimal k) (omega arith))

negated_suc : (m : ℕ) → neg_ℤ (pos (m + 1)) ≡ negsuc m
negated_suc m = let e : m + 1 ≡ suc m = omega arith in ap (λ (k : ℕ). neg_ℤ (pos k)) e

-- an offset is found exactly where it stands, with a minus if it is negative, and no digit follows
pub offsets_spelled : Spells offset_front offset_text IsShortOffset NoDigitNext
offsets_spelled =
    record {
      written = λ k rest short behind. written k rest short behind;
      read = λ k bytes rest is. read k bytes rest is;
      behind = small.behind;
      cut = λ bytes is. cut bytes is;
      misspelt = λ bytes more is. misspelt bytes more is;
    }
  where
    written : (k : ℤ) (rest : List ℕ) → IsShortOffset k → NoDigitNext rest
        → offset_front (offset_text k ++ rest) ≡ Found k rest
    written (pos n) rest short behind =
        offset_along (decimal n) rest (first_is_high n short) ∙ ap (found_as pos) (small.written n rest short behind)
    written (negsuc m) rest short behind =
        offset_minus 45 (decimal (m + 1) ++ rest) refl
        ∙ ap (found_as (λ n. neg_ℤ (pos n))) (positives_spelled.written (m + 1) rest (omega arith, short) behind)
        ∙ ap (λ (k : ℤ). Found k rest) (negated_suc m)

    -- an offset that is found stands there, and no digit follows
    read : (k : ℤ) (bytes rest : List ℕ) → offset_front bytes ≡ Found k rest
        → IsShortOffset k × NoDigitNext rest × (bytes ≡ offset_text k ++ rest)
    read k [] rest is = absurd (found_is_not_missing k rest Cut (sym is))
    read k (b ∷ bytes) rest is =
        ⊎_elim
        (λ (h : (nat_eq b 45 ≡ true) × (b ≡ 45)).
        let found = found_as_found (λ n. neg_ℤ (pos n)) (positive_front bytes) k rest
        (sym (offset_minus b bytes h.0) ∙ is) in
        let r = positives_spelled.read found.0 bytes rest found.1 in
        let n = negated found.0 r.0.0 r.0.1 in
        subst (λ (x : ℤ). IsShortOffset x × NoDigitNext rest × (b ∷ bytes ≡ offset_text x ++ rest)) found.2 (
          n.0,
          r.1,
          ap (λ (c : ℕ). c ∷ bytes) h.1 ∙ ap (λ (l : List ℕ). 45 ∷ l) r.2
              ∙ ap (λ (l : List ℕ). l ++ rest) (sym n.1),
        ))
        (λ (h : (nat_eq b 45 ≡ false) × (b ≢ 45)).
        let found = found_as_found pos (number_front 1000 (b ∷ bytes)) k rest (sym (offset_plain b bytes h.0) ∙ is) in
        let r = small.read found.0 (b ∷ bytes) rest found.1 in
        subst (λ (x : ℤ). IsShortOffset x × NoDigitNext rest × (b ∷ bytes ≡ offset_text x ++ rest)) found.2
        (r.0, r.1, r.2)) (same_byte_or_not b 45)

    -- bytes that end too early are a front of some offset
    cut : (bytes : List ℕ) → offset_front bytes ≡ Missing Cut
        → (k : ℤ) × (more : List ℕ) × IsShortOffset k × (offset_text k ≡ bytes ++ more)
    cut [] is = (pos 0, decimal 0, omega arith, refl)
    cut (b ∷ bytes) is =
        ⊎_elim
        (λ (h : (nat_eq b 45 ≡ true) × (b ≡ 45)).
        let c = positives_spelled.cut bytes
        (found_as_missing (λ n. neg_ℤ (pos n)) (positive_front bytes) Cut (sym (offset_minus b bytes h.0) ∙ is)) in
        let n = negated c.0 c.2.0 c.2.1 in (
          neg_ℤ (pos c.0),
          c.1,
          n.0,
          n.1 ∙ ap (λ (l : List ℕ). 45 ∷ l) c.3
              ∙ ap (λ (x : ℕ). x ∷ (bytes ++ c.1)) (sym h.1),
        ))
        (λ (h : (nat_eq b 45 ≡ false) × (b ≢ 45)).
        let c = small.cut (b ∷ bytes)
        (found_as_missing pos (number_front 1000 (b ∷ bytes)) Cut (sym (offset_plain b bytes h.0) ∙ is)) in
        (pos c.0, c.1, c.2, c.3))
        (same_byte_or_not b 45)

    -- a misspelt offset stays so, whatever follows
    misspelt : (bytes more : List ℕ) → offset_front bytes ≡ Missing Misspelt
        → offset_front (bytes ++ more) ≡ Missing Misspelt
    misspelt [] more is = absurd (cut_is_not_misspelt (offset_front []) refl is)
    misspelt (b ∷ bytes) more is =
        ⊎_elim
        (λ (h : (nat_eq b 45 ≡ true) × (b ≡ 45)).
        offset_minus b (bytes ++ more) h.0
        ∙ ap (found_as (λ n. neg_ℤ (pos n)))
        (positives_spelled.misspelt bytes more (found_as_missing (λ n. neg_ℤ (pos n)) (positive_front bytes) Misspelt
        (sym (offset_minus b bytes h.0) ∙ is))))
        (λ (h : (nat_eq b 45 ≡ false) × (b ≢ 45)).
        offset_plain b (bytes ++ more) h.0
        ∙ ap (found_as pos)
        (small.misspelt (b ∷ bytes) more (found_as_missing pos (number_front 1000 (b ∷ bytes)) Misspelt
        (sym (offset_plain b bytes h.0) ∙ is)))) (same_byte_or_not b 45)
