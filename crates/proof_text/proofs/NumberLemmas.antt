-- Numbers are found exactly where their digits stand with no digit behind them.
use Rattle.std.proofs.Common.{◌≡◌, ◌⊎◌, inl, inr, ⊎_elim, ℕ, zero, suc, ◌+◌, ◌-◌, ◌*◌, ◌/◌, ◌%◌, ◌^◌, ◌<◌, ◌≤◌, true}
use Rattle.std.proofs.Common.{false, List, [], ◌∷◌, ◌++◌, refl, sym, ap, ◌∙◌, arith, subst, append_assoc}
use Rattle.std.proofs.lemmas.Bool.Decides.{nat_tests}
use Rattle.std.proofs.lemmas.List.{append-nil}
use Rattle.std.proofs.lemmas.Fmt.{decimal_digit, decimal_step}
use Rattle.std.specs.Prelude.{nat_lt, ◌&&◌}
use Rattle.std.specs.Char.{is_ascii_digit}
use Rattle.std.specs.Fmt.{decimal}
use Rattle.proof_text.specs.declared.unread.Unread.TheVariants.{Misspelt, Cut}
use Rattle.proof_text.specs.Fronts.{Found, Missing}
use Rattle.proof_text.specs.Numbers.{digits_front, number_front}
use Rattle.proof_text.proofs.Spells.{Spells, cut_is_not_misspelt, found_is_not_missing, same_found}

-- no digit comes next
abbrev pub NoDigitNext : List ℕ → Type 0
NoDigitNext [] = ⊥
NoDigitNext (b ∷ bs) = is_ascii_digit b ≡ false

NoDigitNext-more : (rest more : List ℕ) → NoDigitNext rest → NoDigitNext (rest ++ more)
NoDigitNext-more [] more h = absurd h
NoDigitNext-more (b ∷ rest) more h = h

pub IsDigit-true : (b : ℕ) → 48 ≤ b → b ≤ 57 → is_ascii_digit b ≡ true
IsDigit-true b low high = grind (arith, nat_tests, low, high)

pub IsDigit-range : (b : ℕ) → is_ascii_digit b ≡ true → (48 ≤ b) × (b ≤ 57)
IsDigit-range b is = (grind (arith, nat_tests), grind (arith, nat_tests))

-- a byte is a digit or none
pub digit_or_none : (b : ℕ) → (is_ascii_digit b ≡ true) ⊎ (is_ascii_digit b ≡ false)
digit_or_none b = elim (is_ascii_digit b) as (λ v. (v ≡ true) ⊎ (v ≡ false)) [ true ↦ inl refl | false ↦ inr refl ]

-- a number other than 0 grows by a digit
pub decimal-push : (n b : ℕ) → 0 < n → n < 1000000 → 48 ≤ b → b ≤ 57 → decimal (n * 10 + (b - 48)) ≡ decimal n ++ b ∷ []
decimal-push n b some few low high =
    let m : ℕ = n * 10 + (b - 48) in
    let large : 10 ≤ m = omega arith in
    let small : m < 2 ^ 64 = omega arith in
    let front : m / 10 ≡ n = omega arith in
    let last : 48 + m % 10 ≡ b = omega arith in
    decimal_step m large small ∙ ap (λ (k : ℕ). decimal k ++ (48 + m % 10) ∷ []) front
    ∙ ap (λ (d : ℕ). decimal n ++ d ∷ []) last

-- a number may have a further digit or not
more_digits : (short n : ℕ)
    → ((nat_lt 0 n && nat_lt n short ≡ true) × (0 < n) × (n < short)) ⊎ (nat_lt 0 n && nat_lt n short ≡ false)
more_digits short n =
    elim (nat_lt 0 n && nat_lt n short) as (λ v. (nat_lt 0 n && nat_lt n short ≡ v)
    → ((v ≡ true) × (0 < n) × (n < short)) ⊎ (v ≡ false)) [
      | true ↦ λ is. inl (refl, grind (arith, nat_tests), grind (arith, nat_tests))
      | false ↦ λ is. inr refl
    ] refl

may_go_on : (short n : ℕ) → 0 < n → n < short → nat_lt 0 n && nat_lt n short ≡ true
may_go_on short n some few = grind (arith, nat_tests)

-- one digit further
digits_step :
    (short n b : ℕ) (bytes : List ℕ) → is_ascii_digit b ≡ true → nat_lt 0 n && nat_lt n short ≡ true
    → digits_front short n (b ∷ bytes) ≡ digits_front short (n * 10 + (b - 48)) bytes
digits_step short n b bytes digit more = rw (digit, more) refl

digits_wrong :
    (short n b : ℕ) (bytes : List ℕ) → is_ascii_digit b ≡ true → nat_lt 0 n && nat_lt n short ≡ false
    → digits_front short n (b ∷ bytes) ≡ Missing Misspelt
digits_wrong short n b bytes digit more = rw (digit, more) refl

digits_end :
    (short n b : ℕ) (bytes : List ℕ) → is_ascii_digit b ≡ false → digits_front short n (b ∷ bytes) ≡ Found n (b ∷ bytes)
digits_end short n b bytes digit = rw digit refl

-- the digits of a number lead to it
number_is_reached :
    (fuel short n : ℕ) (rest : List ℕ) → n ≤ fuel → n < short * 10 → short ≤ 100000
    → number_front short (decimal n ++ rest) ≡ digits_front short n rest
number_is_reached fuel short n rest within below few = by_size fuel short n rest within below few (small_or_large n)
  where
    small_or_large : (n : ℕ) → (n < 10) ⊎ (10 ≤ n)
    small_or_large n = grind arith

    one_digit : (short n : ℕ) (rest : List ℕ) → n < 10
        → number_front short (decimal n ++ rest) ≡ digits_front short n rest
    one_digit short n rest small =
        let text : decimal n ≡ (48 + n) ∷ [] = decimal_digit n small in
        let digit : is_ascii_digit (48 + n) ≡ true = IsDigit-true (48 + n) (omega arith) (omega arith) in
        let value : 48 + n - 48 ≡ n = omega arith in
        rw (text, digit, value) refl

    -- by whether the number has one digit or more
    by_size :
        (fuel short n : ℕ) (rest : List ℕ) → n ≤ fuel → n < short * 10 → short ≤ 100000 → (n < 10) ⊎ (10 ≤ n)
        → number_front short (decimal n ++ rest) ≡ digits_front short n rest
    by_size fuel short n rest within below few (inl small) = one_digit short n rest small
    by_size zero short n rest within below few (inr large) = absurd (omega arith)
    by_size (suc fuel) short n rest within below few (inr large) =
        let front : ℕ = n / 10 in
        let last : ℕ = 48 + n % 10 in
        let small : n < 2 ^ 64 = omega arith in
        let text : decimal n ≡ decimal front ++ last ∷ [] = decimal_step n large small in
        let digit : is_ascii_digit last ≡ true = IsDigit-true last (omega arith) (omega arith) in
        let more : nat_lt 0 front && nat_lt front short ≡ true = may_go_on short front (omega arith) (omega arith) in
        let value : front * 10 + (last - 48) ≡ n = omega arith in
        ap (number_front short) (ap (λ (l : List ℕ). l ++ rest) text ∙ append_assoc (decimal front) (last ∷ []) rest)
        ∙ by_size fuel short front (last ∷ rest) (omega arith) (omega arith) few (small_or_large front)
        ∙ digits_step short front last rest digit more
        ∙ ap (λ (k : ℕ). digits_front short k rest) value

-- what is found behind the digits of a number
digits_read :
    (short n m : ℕ) (bytes rest : List ℕ) → n < short * 10 → short ≤ 100000 → digits_front short n bytes ≡ Found m rest
    → (m < short * 10) × NoDigitNext rest × (decimal n ++ bytes ≡ decimal m ++ rest)
digits_read short n m [] rest below few is = absurd (found_is_not_missing m rest Cut (sym is))
digits_read short n m (b ∷ bytes) rest below few is =
    ⊎_elim
    (λ (digit : is_ascii_digit b ≡ true).
    ⊎_elim
    (λ (more : (nat_lt 0 n && nat_lt n short ≡ true) × (0 < n) × (n < short)).
    goes_on short n m b bytes rest few digit more.0 more.1 more.2
    (λ k less e. digits_read short k m bytes rest less few e) is)
    (λ (more : nat_lt 0 n && nat_lt n short ≡ false).
    absurd (found_is_not_missing m rest Misspelt (sym is ∙ digits_wrong short n b bytes digit more)))
    (more_digits short n))
    (λ (none : is_ascii_digit b ≡ false). ends short n m b bytes rest below none
    (same_found n m (b ∷ bytes) rest (sym (digits_end short n b bytes none) ∙ is))) (digit_or_none b)
  where
    ends :
        (short n m b : ℕ) (bytes rest : List ℕ) → n < short * 10 → is_ascii_digit b ≡ false
        → (n ≡ m) × (b ∷ bytes ≡ rest)
        → (m < short * 10) × NoDigitNext rest × (decimal n ++ b ∷ bytes ≡ decimal m ++ rest)
    ends short n m b bytes rest below none same = (
      omega (arith, same.0),
      subst NoDigitNext same.1 none,
      ap (λ (k : ℕ). decimal k ++ b ∷ bytes) same.0 ∙ ap (λ (l : List ℕ). decimal m ++ l) same.1,
    )

    -- one digit more, and what is found behind it
    goes_on :
        (short n m b : ℕ) (bytes rest : List ℕ) → short ≤ 100000 → is_ascii_digit b ≡ true
        → nat_lt 0 n && nat_lt n short ≡ true → 0 < n → n < short
        → ((k : ℕ) → k < short * 10 → digits_front short k bytes ≡ Found m rest
        → (m < short * 10) × NoDigitNext rest × (decimal k ++ bytes ≡ decimal m ++ rest))
        → digits_front short n (b ∷ bytes) ≡ Found m rest
        → (m < short * 10) × NoDigitNext rest × (decimal n ++ b ∷ bytes ≡ decimal m ++ rest)
    goes_on short n m b bytes rest few digit more some less ih is =
        let range = IsDigit-range b digit in
        let low : 48 ≤ b = range.0 in
        let high : b ≤ 57 = range.1 in
        let r = ih (n * 10 + (b - 48)) (omega arith) (sym (digits_step short n b bytes digit more) ∙ is) in (
          r.0,
          r.1,
          sym (append_assoc (decimal n) (b ∷ []) bytes)
              ∙ ap (λ (l : List ℕ). l ++ bytes) (sym (decimal-push n b some (omega arith) low high)) ∙ r.2,
        )

-- digits that are cut are those of a number
digits_cut :
    (short n : ℕ) (bytes : List ℕ) → n < short * 10 → short ≤ 100000 → digits_front short n bytes ≡ Missing Cut
    → (m : ℕ) × (more : List ℕ) × (m < short * 10) × (decimal m ≡ decimal n ++ (bytes ++ more))
digits_cut short n [] below few is = (n, [], below, sym (append-nil (decimal n)))
digits_cut short n (b ∷ bytes) below few is =
    ⊎_elim
    (λ (digit : is_ascii_digit b ≡ true).
    ⊎_elim
    (λ (more : (nat_lt 0 n && nat_lt n short ≡ true) × (0 < n) × (n < short)).
    goes_on short n b bytes few digit more.0 more.1 more.2 (λ k less e. digits_cut short k bytes less few e) is)
    (λ (more : nat_lt 0 n && nat_lt n short ≡ false). absurd (cut_is_not_misspelt (digits_front short n (b ∷ bytes)) is
    (digits_wrong short n b bytes digit more)))
    (more_digits short n))
    (λ (none : is_ascii_digit b ≡ false).
    absurd (found_is_not_missing n (b ∷ bytes) Cut (sym (digits_end short n b bytes none) ∙ is))) (digit_or_none b)
  where
    goes_on :
        (short n b : ℕ) (bytes : List ℕ) → short ≤ 100000 → is_ascii_digit b ≡ true
        → nat_lt 0 n && nat_lt n short ≡ true → 0 < n → n < short
        → ((k : ℕ) → k < short * 10 → digits_front short k bytes ≡ Missing Cut
        → (m : ℕ) × (more : List ℕ) × (m < short * 10) × (decimal m ≡ decimal k ++ (bytes ++ more)))
        → digits_front short n (b ∷ bytes) ≡ Missing Cut
        → (m : ℕ) × (more : List ℕ) × (m < short * 10) × (decimal m ≡ decimal n ++ (b ∷ bytes ++ more))
    goes_on short n b bytes few digit more some less ih is =
        let range = IsDigit-range b digit in
        let low : 48 ≤ b = range.0 in
        let high : b ≤ 57 = range.1 in
        let r = ih (n * 10 + (b - 48)) (omega arith) (sym (digits_step short n b bytes digit more) ∙ is) in (
          r.0,
          r.1,
          r.2,
          r.3 ∙ ap (λ (l : List ℕ). l ++ (bytes ++ r.1)) (decimal-push n b some (omega arith) low high)
              ∙ append_assoc (decimal n) (b ∷ []) (bytes ++ r.1),
        )

-- digits that are misspelt stay so
digits_misspelt :
    (short n : ℕ) (bytes more : List ℕ) → digits_front short n bytes ≡ Missing Misspelt
    → digits_front short n (bytes ++ more) ≡ Missing Misspelt
digits_misspelt short n [] more is = absurd (cut_is_not_misspelt (digits_front short n []) refl is)
digits_misspelt short n (b ∷ bytes) more is =
    ⊎_elim
    (λ (digit : is_ascii_digit b ≡ true).
    ⊎_elim
    (λ (on : (nat_lt 0 n && nat_lt n short ≡ true) × (0 < n) × (n < short)).
    digits_step short n b (bytes ++ more) digit on.0
    ∙ digits_misspelt short (n * 10 + (b - 48)) bytes more (sym (digits_step short n b bytes digit on.0) ∙ is))
    (λ (wrong : nat_lt 0 n && nat_lt n short ≡ false). digits_wrong short n b (bytes ++ more) digit wrong)
    (more_digits short n))
    (λ (none : is_ascii_digit b ≡ false).
    absurd (found_is_not_missing n (b ∷ bytes) Misspelt (sym (digits_end short n b bytes none) ∙ is)))
    (digit_or_none b)

-- a first digit
number_first :
    (short b : ℕ) (bytes : List ℕ) → is_ascii_digit b ≡ true
    → number_front short (b ∷ bytes) ≡ digits_front short (b - 48) bytes
number_first short b bytes digit = rw digit refl

no_number : (short b : ℕ) (bytes : List ℕ) → is_ascii_digit b ≡ false
    → number_front short (b ∷ bytes) ≡ Missing Misspelt
no_number short b bytes none = rw none refl

first_digit : (b : ℕ) → 48 ≤ b → b ≤ 57 → decimal (b - 48) ≡ b ∷ []
first_digit b low high = decimal_digit (b - 48) (omega arith) ∙ ap (λ (k : ℕ). k ∷ []) (omega arith)

-- a number is found exactly where its digits stand and no digit follows
pub numbers_spelled : (short : ℕ) → 1 ≤ short → short ≤ 100000
    → Spells (number_front short) decimal (λ n. n < short * 10) NoDigitNext
numbers_spelled short some few =
    record {
      written = λ n rest below behind. number_is_reached n short n rest (omega arith) below few
          ∙ end short n rest behind;
      read = λ n bytes rest is. read short n bytes rest some few is;
      behind = NoDigitNext-more;
      cut = λ bytes is. cut short bytes some few is;
      misspelt = λ bytes more is. misspelt short bytes more is;
    }
  where
    end : (short n : ℕ) (rest : List ℕ) → NoDigitNext rest → digits_front short n rest ≡ Found n rest
    end short n [] behind = absurd behind
    end short n (b ∷ rest) behind = digits_end short n b rest behind

    -- a number that is found stands there, and no digit follows
    read :
        (short n : ℕ) (bytes rest : List ℕ) → 1 ≤ short → short ≤ 100000 → number_front short bytes ≡ Found n rest
        → (n < short * 10) × NoDigitNext rest × (bytes ≡ decimal n ++ rest)
    read short n [] rest some few is = absurd (found_is_not_missing n rest Cut (sym is))
    read short n (b ∷ bytes) rest some few is =
        ⊎_elim
        (λ (digit : is_ascii_digit b ≡ true).
        let range = IsDigit-range b digit in
        let low : 48 ≤ b = range.0 in
        let high : b ≤ 57 = range.1 in
        let r = digits_read short (b - 48) n bytes rest (omega arith) few
        (sym (number_first short b bytes digit) ∙ is) in
        (r.0, r.1, ap (λ (l : List ℕ). l ++ bytes) (sym (first_digit b low high)) ∙ r.2))
        (λ (none : is_ascii_digit b ≡ false).
        absurd (found_is_not_missing n rest Misspelt (sym is ∙ no_number short b bytes none))) (digit_or_none b)

    -- bytes that end too early are a front of some number
    cut :
        (short : ℕ) (bytes : List ℕ) → 1 ≤ short → short ≤ 100000 → number_front short bytes ≡ Missing Cut
        → (n : ℕ) × (more : List ℕ) × (n < short * 10) × (decimal n ≡ bytes ++ more)
    cut short [] some few is = (0, decimal 0, omega arith, refl)
    cut short (b ∷ bytes) some few is =
        ⊎_elim
        (λ (digit : is_ascii_digit b ≡ true).
        let range = IsDigit-range b digit in
        let low : 48 ≤ b = range.0 in
        let high : b ≤ 57 = range.1 in
        let r = digits_cut short (b - 48) bytes (omega arith) few (sym (number_first short b bytes digit) ∙ is) in
        (r.0, r.1, r.2, r.3 ∙ ap (λ (l : List ℕ). l ++ (bytes ++ r.1)) (first_digit b low high)))
        (λ (none : is_ascii_digit b ≡ false). absurd (cut_is_not_misspelt (number_front short (b ∷ bytes)) is
        (no_number short b bytes none))) (digit_or_none b)

    -- a misspelt number stays so, whatever follows
    misspelt :
        (short : ℕ) (bytes more : List ℕ) → number_front short bytes ≡ Missing Misspelt
        → number_front short (bytes ++ more) ≡ Missing Misspelt
    misspelt short [] more is = absurd (cut_is_not_misspelt (number_front short []) refl is)
    misspelt short (b ∷ bytes) more is =
        ⊎_elim
        (λ (digit : is_ascii_digit b ≡ true).
        number_first short b (bytes ++ more) digit
        ∙ digits_misspelt short (b - 48) bytes more (sym (number_first short b bytes digit) ∙ is))
        (λ (none : is_ascii_digit b ≡ false). no_number short b (bytes ++ more) none)
        (digit_or_none b)
