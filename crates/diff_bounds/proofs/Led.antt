-- Ways through a literal: where that of its first name goes on no lower than what is kept, none does. One that is no
-- lower than what the row of its end keeps goes on no lower.
use Rattle.std.proofs.Common.{◌≡◌, ℕ, ◌<◌, pos, ◌+ℤ◌, ◌≤ℤ◌, ◌⊎◌, inl, inr, int_lt, List, [], length, get_or, Option}
use Rattle.std.proofs.Common.{Some, None, arith, refl, sym, ap, ◌∙◌, subst}
use Rattle.std.proofs.lemmas.Bool.{cases_Bool}
use Rattle.std.proofs.lemmas.Int.{ints}
use Rattle.diff_graph.specs.declared.lit.Lit.{Lit}
use Rattle.diff_tables.specs.declared.hop.Hop.{Hop}
use Rattle.diff_tables.specs.Tables.{Numbered, literals_of, kept_of, StandsFor, IsAtMost, Follows}
use Rattle.diff_graph.specs.Limits.{IsNamed}
use Rattle.diff_tables.specs.Steps.{way_of, joined, lower_of, IsLowered, IsModest, IsSquare}
use Rattle.diff_graph.proofs.Walks.{int_lt-none}
use Rattle.diff_bounds.specs.Kept.{IsLed, IsNoLower, lower_way}

-- what is kept stays where the way goes on no lower
lower_of-no_lower : (way rest kept : Option Hop) → IsNoLower way rest kept → kept ≡ lower_of kept (joined way rest)
lower_of-no_lower None rest kept high = refl
lower_of-no_lower (Some way) None kept high = refl
lower_of-no_lower (Some way) (Some rest) None high = absurd high
lower_of-no_lower (Some way) (Some rest) (Some kept) high = grind (arith, ints)

-- so a row by which no way goes on lower is lowered already
pub IsLowered-led :
    (ways : List (Option Hop)) (first from : ℕ) (row : List (Option Hop)) → IsLed ways first from row
    → IsNoLower (get_or ways first None) (get_or row from None) (get_or row first None) → IsLowered ways from row row
IsLowered-led ways first from row led high = record {
  len = refl;
  at = λ x below. lower_of-no_lower (get_or ways x None) (get_or row from None) (get_or row x None) (led high x below);
}

module _ (n : ℕ) (t : ℕ → ℕ → Option Hop) (ps : List Numbered) (stands : StandsFor n t ps) where
  -- two offsets that are kept one after the other
  at_most_both :
      (x y z : ℕ) → x < n → y < n → z < n → (h i : Hop) → t x y ≡ Some h → t y z ≡ Some i
      → IsAtMost (t x z) (h.k +ℤ i.k)
  at_most_both x y z xn yn zn h i is_h is_i =
      let first : Follows (literals_of ps) x y h.k = (stands.tight x y xn yn h.k).0 (rw is_h (omega (arith, ints))) in
      let second : Follows (literals_of ps) y z i.k = (stands.tight y z yn zn i.k).0 (rw is_i (omega (arith, ints))) in
      (stands.tight x z xn zn (h.k +ℤ i.k)).1
      (λ v met. let a = first v met in let b = second v met in omega (arith, ints, a, b))

  -- where the way of the literal's first name goes on no lower than what is kept, neither does that of another name
  no_lower_between :
      (l : Lit) (number x y : ℕ) → IsNamed n l → x < n → y < n → (front rest led kept : Option Hop)
      → t x l.x ≡ front → t l.y y ≡ rest → t l.x y ≡ led → t x y ≡ kept
      → (own : Hop) → own.k ≡ pos 0 → IsNoLower (way_of number l l.x (Some own)) rest led
      → IsNoLower (way_of number l x front) rest kept
  no_lower_between l number x y named xn yn None rest led kept is_front is_rest is_led is_kept own zero high = tt
  no_lower_between l number x y named xn yn (Some front) None led kept is_front is_rest is_led is_kept own zero high =
      tt
  no_lower_between l number x y named xn yn (Some front) (Some rest) None kept is_front is_rest is_led is_kept
      own zero high = absurd high
  no_lower_between l number x y named xn yn (Some front) (Some rest) (Some led) None is_front is_rest
      is_led is_kept own zero high =
      let most : IsAtMost None (front.k +ℤ led.k) =
      rw is_kept at (at_most_both x l.x y xn named.0 yn front led is_front is_led) in
      absurd most
  no_lower_between l number x y named xn yn (Some front) (Some rest) (Some led) (Some kept) is_front is_rest
      is_led is_kept own zero high =
      let most : kept.k ≤ℤ (front.k +ℤ led.k) =
      rw is_kept at (at_most_both x l.x y xn named.0 yn front led is_front is_led) in
      omega (arith, ints, most, high, zero)

-- so it is of the ways through a literal, in a table that stands for a list
pub IsLed-through :
    (rows : List (List (Option Hop))) (ways : List (Option Hop)) (number : ℕ) (l : Lit) (ps : List Numbered)
    → StandsFor (length rows) (kept_of rows) ps → IsSquare rows → IsNamed (length rows) l
    → ((x : ℕ) → x < length rows → get_or ways x None ≡ way_of number l x (kept_of rows x l.x))
    → (y : ℕ) → y < length rows → IsLed ways l.x l.y (get_or rows y [])
IsLed-through rows ways number l ps stands square named are y yn high x below =
    let n : ℕ = length rows in
    let own = stands.own l.x named.0 in
    let long : length (get_or rows y []) ≡ n = square y yn in
    let xn : x < n = omega (arith, long, below) in
    let first : get_or ways l.x None ≡ way_of number l l.x (Some own.0) =
    are l.x named.0 ∙ ap (λ (o : Option Hop). way_of number l l.x o) own.1 in
    subst (λ (way : Option Hop). IsNoLower way (kept_of rows l.y y) (kept_of rows x y)) (sym (are x xn))
    (no_lower_between n (kept_of rows) ps stands l number x y named xn yn (kept_of rows x l.x) (kept_of rows l.y y)
    (kept_of rows l.x y) (kept_of rows x y) refl refl refl refl own.0 own.2
    (subst (λ (way : Option Hop). IsNoLower way (kept_of rows l.y y) (kept_of rows l.x y)) first high))

-- the way is no lower than what is kept
abbrev IsNoHigher : Option Hop → Option Hop → Type 0
IsNoHigher None way = ⊥
IsNoHigher (Some kept) None = ⊥
IsNoHigher (Some kept) (Some way) = kept.k ≤ℤ way.k

-- a way is left, or was dropped
left_or_dropped :
    (kept way : Option Hop) → (lower_way kept way ≡ way) ⊎ ((lower_way kept way ≡ None) × IsNoHigher kept way)
left_or_dropped kept None = inl refl
left_or_dropped None (Some way) = inl refl
left_or_dropped (Some kept) (Some way) =
    elim (cases_Bool (int_lt way.k kept.k)) [
      | inl less ↦ rw less (inl refl)
      | inr not ↦ (let high : kept.k ≤ℤ way.k = int_lt-none way.k kept.k not in rw not (inr (refl, high)))
    ]

-- what is left of modest ways is modest
pub IsModest-lower_way : (size : ℕ) (kept way : Option Hop) → IsModest size way → IsModest size (lower_way kept way)
IsModest-lower_way size kept None modest = tt
IsModest-lower_way size None (Some way) modest = modest
IsModest-lower_way size (Some kept) (Some way) modest =
    elim (cases_Bool (int_lt way.k kept.k)) [
      | inl less ↦ rw less modest
      | inr not ↦ rw not tt
    ]

module _ (n : ℕ) (t : ℕ → ℕ → Option Hop) (ps : List Numbered) (stands : StandsFor n t ps) where
  -- a way that was dropped goes on no lower than what is kept
  dropped_is_no_lower :
      (x y from : ℕ) → x < n → y < n → from < n → (there rest kept way : Option Hop)
      → t x from ≡ there → t from y ≡ rest → t x y ≡ kept → IsNoHigher there way → IsNoLower way rest kept
  dropped_is_no_lower x y from xn yn fn there rest kept None is_there is_rest is_kept high = tt
  dropped_is_no_lower x y from xn yn fn there None kept (Some way) is_there is_rest is_kept high = tt
  dropped_is_no_lower x y from xn yn fn None (Some rest) kept (Some way) is_there is_rest is_kept high = absurd high
  dropped_is_no_lower x y from xn yn fn (Some there) (Some rest) None (Some way) is_there is_rest is_kept high =
      let most : IsAtMost None (there.k +ℤ rest.k) =
      rw is_kept at (at_most_both n t ps stands x from y xn fn yn there rest is_there is_rest) in
      absurd most
  dropped_is_no_lower x y from xn yn fn (Some there) (Some rest) (Some kept) (Some way) is_there is_rest is_kept high =
      let most : kept.k ≤ℤ (there.k +ℤ rest.k) =
      rw is_kept at (at_most_both n t ps stands x from y xn fn yn there rest is_there is_rest) in
      omega (arith, ints, most, high)

-- ---- the ways that lead lower than what the row of their end keeps
module _ (rows : List (List (Option Hop))) (ways left : List (Option Hop)) (from : ℕ) (ps : List Numbered)
    (stands : StandsFor (length rows) (kept_of rows) ps) (square : IsSquare rows) (from_below : from < length rows)
    (lower : (x : ℕ) → x < length rows → get_or left x None
    ≡ lower_way (kept_of rows x from) (get_or ways x None)) where
  -- where a way is not left, it goes on no lower
  left_or_high :
      (x y : ℕ) → x < length rows → y < length rows
      → (get_or left x None ≡ get_or ways x None)
      ⊎ ((get_or left x None ≡ None) × IsNoLower (get_or ways x None) (kept_of rows from y) (kept_of rows x y))
  left_or_high x y xn yn =
      elim (left_or_dropped (kept_of rows x from) (get_or ways x None)) [
        | inl same ↦ inl (lower x xn ∙ same)
        | inr dropped ↦
            inr (
              lower x xn ∙ dropped.0,
              dropped_is_no_lower (length rows) (kept_of rows) ps stands x y from xn yn from_below (kept_of rows x from)
                  (kept_of rows from y) (kept_of rows x y) (get_or ways x None) refl refl refl dropped.1,
            )
      ]

  -- they are led by the first one as all ways are
  pub IsLed-left :
      (first y : ℕ) → first < length rows → y < length rows → IsLed ways first from (get_or rows y [])
      → IsLed left first from (get_or rows y [])
  IsLed-left first y first_below yn led high x below =
      let long : length (get_or rows y []) ≡ length rows = square y yn in
      let xn : x < length rows = omega (arith, long, below) in
      let first_high : IsNoLower (get_or ways first None) (kept_of rows from y) (kept_of rows first y) =
      elim (left_or_high first y first_below yn) [
        | inl same ↦ subst (λ (way : Option Hop). IsNoLower way (kept_of rows from y) (kept_of rows first y)) same high
        | inr dropped ↦ dropped.1
      ] in
      elim (left_or_high x y xn yn) [
        | inl same ↦
            subst (λ (way : Option Hop). IsNoLower way (kept_of rows from y) (kept_of rows x y)) (sym same)
            (led first_high x below)
        | inr dropped ↦
            subst (λ (way : Option Hop). IsNoLower way (kept_of rows from y) (kept_of rows x y)) (sym dropped.0) tt
      ]

  -- and a row that is lowered by them is lowered by all
  pub IsLowered-left :
      (y : ℕ) (new : List (Option Hop)) → y < length rows → IsLowered left from (get_or rows y []) new
      → IsLowered ways from (get_or rows y []) new
  IsLowered-left y new yn lowered = record {
    len = lowered.len;
    at = λ x below.
        (let long : length (get_or rows y []) ≡ length rows = square y yn in
        let xn : x < length rows = omega (arith, long, below) in
        let by = λ (way : Option Hop). lower_of (kept_of rows x y) (joined way (kept_of rows from y)) in
        lowered.at x below
        ∙ elim (left_or_high x y xn yn) [
          | inl same ↦ ap by same
          | inr dropped ↦
              ap by dropped.0
              ∙ lower_of-no_lower (get_or ways x None) (kept_of rows from y) (kept_of rows x y) dropped.1
        ]);
  }
