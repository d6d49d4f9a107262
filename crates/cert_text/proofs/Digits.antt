-- Digits at the front of some bytes, and the number that they write.
use Rattle.std.proofs.Common.{◌≡◌, ℕ, zero, suc, ◌^◌, ◌<◌, ◌≤◌, true, List, [], ◌∷◌, ◌++◌, length, get_or, take, refl}
use Rattle.std.proofs.Common.{sym, ap, ◌∙◌, arith}
use Rattle.std.proofs.lemmas.Bool.Decides.{nat_tests}
use Rattle.std.proofs.lemmas.List.{get_or_append_left}
use Rattle.std.proofs.Math.Seq.{take-append_seam}
use Rattle.std.proofs.lemmas.Str.Parse.{digit_from_value, IsNumeralModel, numerals_by_value, tells_digits}
use Rattle.std.proofs.lemmas.Fmt.{digits_decimal, digits_value-decimal, decimal_nonempty, length-decimal-le}
use Rattle.std.proofs.lemmas.Fmt.{first_decimal}
use Rattle.std.specs.List.{prefix_len}
use Rattle.std.specs.Char.{is_ascii_digit}
use Rattle.std.specs.Fmt.{decimal}
use Rattle.std.specs.Str.Parse.{AllDigits, digits_value}
use Rattle.cert_text.specs.Numbers.{IsBehindNumber, PICK_LIMIT}

-- digits with no digit behind them are the front of digits
prefix_len-seam : (ds rest : List ℕ) → AllDigits 10 ds → IsBehindNumber rest
    → prefix_len is_ascii_digit (ds ++ rest) ≡ length ds
prefix_len-seam [] [] all behind = refl
prefix_len-seam [] (b ∷ bs) all behind = rw behind refl
prefix_len-seam (d ∷ ds) rest all behind =
    let range = digit_from_value d all.0 in
    let passes : is_ascii_digit d ≡ true = grind (arith, nat_tests, range.0, range.1) in
    rw (passes, prefix_len-seam ds rest all.1 behind) (omega arith)

-- the numeral model of decimal digits
own : IsNumeralModel (AllDigits 10) (digits_value 10)
own = numerals_by_value (AllDigits 10) tells_digits

-- where the text of a number stands at the front with no digit behind it
pub record Found (bs rest : List ℕ) (n : ℕ) : Type 0 where
  pub count : prefix_len is_ascii_digit bs ≡ length (decimal n)
  pub some : 0 < length (decimal n)
  pub few : length (decimal n) ≤ 5
  pub front : take (length (decimal n)) bs ≡ decimal n
  pub value : digits_value 10 (decimal n) ≡ n
  pub first : get_or bs 0 0 ≡ 48 → length (decimal n) ≤ 1

-- a number whose text begins with 0 has one digit
zero_alone : (n : ℕ) → n < PICK_LIMIT → get_or (decimal n) 0 0 ≡ 48 → length (decimal n) ≤ 1
zero_alone zero small first = length-decimal-le 1 zero (omega arith) (omega arith) (omega arith)
zero_alone (suc n) small first = absurd (omega (arith, first_decimal (suc n) (omega arith) (omega arith)))

-- where the digits of a number stand with no digit behind them, they are found, with the number that they write
pub found_at : (bs rest : List ℕ) (n : ℕ) → n < PICK_LIMIT → IsBehindNumber rest
    → bs ≡ decimal n ++ rest → Found bs rest n
found_at bs rest n small behind is =
    let big : n < 2 ^ 64 = omega arith in
    let all = digits_decimal own n big in
    let some = decimal_nonempty n big in
    record {
      count = rw is (prefix_len-seam (decimal n) rest all behind);
      some = some;
      few = length-decimal-le 5 n (omega arith) small big;
      front = rw is (take-append_seam (decimal n) rest);
      value = digits_value-decimal own n big;
      first = λ z. zero_alone n small (sym (get_or_append_left (decimal n) rest 0 0 some)
          ∙ ap (λ l. get_or l 0 0) (sym is) ∙ z);
    }
