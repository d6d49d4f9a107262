-- Bytes begin with at most one first line.
use Rattle.std.proofs.Common.{◌≡◌, ℕ, ◌<◌, ◌≤◌, ◌^◌, List, [], ◌∷◌, ◌++◌, length, refl, sym, ap, ◌∙◌, arith}
use Rattle.std.proofs.Common.{append_assoc, length-append}
use Rattle.std.proofs.lemmas.List.{append-nil}
use Rattle.std.proofs.lemmas.Str.Parse.{IsNumeralModel, digit_from_value, numerals_by_value, tells_digits}
use Rattle.std.proofs.lemmas.Fmt.{decimal_injective, digits_decimal}
use Rattle.std.specs.Fmt.{decimal}
use Rattle.std.specs.Str.Parse.{AllDigits, digits_value}
use Rattle.fn_rules.specs.declared.function.Level.{Level}
use Rattle.fn_rules.specs.declared.function.Level.TheVariants.{Tp1, Tp2}
use Rattle.ot_sections.specs.declared.premise.TheConstants.{MAX_BOUND}
use Rattle.ot_bound.specs.Lows.{low_header_text}

-- digits up to a newline are one
pub digits_once :
    (xs ys r s : List ℕ) → AllDigits 10 xs → AllDigits 10 ys → xs ++ 10 ∷ r ≡ ys ++ 10 ∷ s → (xs ≡ ys) × (r ≡ s)
digits_once [] [] r s one other is = (refl, cc)
digits_once [] (y ∷ ys) r s one other is =
    let range = digit_from_value y other.0 in
    let newline : 10 ≡ y = cc in
    absurd (omega (arith, range.0, newline))
digits_once (x ∷ xs) [] r s one other is =
    let range = digit_from_value x one.0 in
    let newline : x ≡ 10 = cc in
    absurd (omega (arith, range.0, newline))
digits_once (x ∷ xs) (y ∷ ys) r s one other is =
    let first : x ≡ y = cc in
    let behind : xs ++ 10 ∷ r ≡ ys ++ 10 ∷ s = cc in
    let rest = digits_once xs ys r s one.1 other.1 behind in
    (cc, rest.1)

own : IsNumeralModel (AllDigits 10) (digits_value 10)
own = numerals_by_value (AllDigits 10) tells_digits

-- numbers up to a newline are one
number_once :
    (b c : ℕ) (r s : List ℕ) → b ≤ MAX_BOUND → c ≤ MAX_BOUND → (decimal b ++ 10 ∷ []) ++ r ≡ (decimal c ++ 10 ∷ []) ++ s
    → (b ≡ c) × (r ≡ s)
number_once b c r s few fewer is =
    let big : b < 2 ^ 64 = omega arith in
    let great : c < 2 ^ 64 = omega arith in
    let same = digits_once (decimal b) (decimal c) r s (digits_decimal own b big) (digits_decimal own c great)
    (sym (append_assoc (decimal b) (10 ∷ []) r) ∙ is ∙ append_assoc (decimal c) (10 ∷ []) s) in
    (decimal_injective b c big great same.0, same.1)

-- the bytes begin with this line, and these stand behind it
pub one_header :
    (l m : Level) (b c : ℕ) (r s : List ℕ) → b ≤ MAX_BOUND → c ≤ MAX_BOUND
    → low_header_text l b ++ r ≡ low_header_text m c ++ s
    → (l ≡ m) × ((b ≡ c) × (r ≡ s))
one_header Tp1 Tp1 b c r s few fewer is = (
  refl,
  number_once b c r s few fewer
      (let behind : (decimal b ++ 10 ∷ []) ++ r ≡ (decimal c ++ 10 ∷ []) ++ s = cc in behind),
)
one_header Tp2 Tp2 b c r s few fewer is = (
  refl,
  number_once b c r s few fewer
      (let behind : (decimal b ++ 10 ∷ []) ++ r ≡ (decimal c ++ 10 ∷ []) ++ s = cc in behind),
)
one_header Tp1 Tp2 b c r s few fewer is = absurd (let digit : ◌≡◌ {A = ℕ} 49 50 = cc in omega (arith, digit))
one_header Tp2 Tp1 b c r s few fewer is = absurd (let digit : ◌≡◌ {A = ℕ} 50 49 = cc in omega (arith, digit))

-- bytes that begin with a line are no proper front of one
pub no_front :
    (l m : Level) (b c : ℕ) (bytes r more : List ℕ) → b ≤ MAX_BOUND → c ≤ MAX_BOUND → bytes ≡ low_header_text l b ++ r
    → low_header_text m c ≡ bytes ++ more → 0 < length more → ⊥
no_front l m b c bytes r more few fewer is front some =
    let whole : low_header_text l b ++ (r ++ more) ≡ low_header_text m c ++ [] =
    sym (append_assoc (low_header_text l b) r more) ∙ ap (λ (x : List ℕ). x ++ more) (sym is) ∙ sym front
    ∙ sym (append-nil (low_header_text m c)) in
    let none : r ++ more ≡ [] = (one_header l m b c (r ++ more) [] few fewer whole).1.1 in
    omega (arith, some, length-append r more, ap length none)
