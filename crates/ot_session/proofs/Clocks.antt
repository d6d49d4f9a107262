-- Lists without a member, and how many operations of each site are in a list.
use Rattle.std.proofs.Common.{◌≡◌, ◌≢◌, ◌<◌, ◌≤◌, ◌+◌, ◌-◌, ℕ, true, false, not, filter, List, [], ◌∷◌, length, map}
use Rattle.std.proofs.Common.{refl, sym, ap, ◌∙◌, subst, inl, inr, arith, get_or}
use Rattle.std.specs.Prelude.{nat_eq, slice_set}
use Rattle.std.specs.List.{range_with_len}
use Rattle.std.proofs.Common.{get_or-set_other}
use Rattle.std.proofs.lemmas.Bool.{cases_eq, eq-eqb, ne_eqb}
use Rattle.std.proofs.lemmas.Grind.{get_or-set_at}
use Rattle.std.proofs.lemmas.List.{ext_get_or, length-set}
use Rattle.std.proofs.lemmas.List.FromFn.{get_or-map-range_with_len, length-map-range_with_len}
use Rattle.ot_causal.specs.Members.{has, without}
use Rattle.ot_causal.specs.Past.{Past, maker, IsClosed}
use Rattle.ot_causal.specs.Counting.{from_site}
use Rattle.ot_session.specs.declared.limits.TheConstants.{MAX_SITES}
use Rattle.ot_session.specs.Lists.{clock}

-- of a list that lacks the number all is kept
filter-other : (x : ℕ) (l : List ℕ) → has l x ≡ false → filter (λ y. not (nat_eq y x)) l ≡ l
filter-other x [] other = refl
filter-other x (y ∷ l) other = elim (cases_eq x y) [
  | inl same ↦ absurd (let yes : nat_eq x y ≡ true = eq-eqb x y same in cc)
  | inr differ ↦
      let no : nat_eq x y ≡ false = ne_eqb x y differ in
      let rest : has l x ≡ false = rw no at other in
      rw (ne_eqb y x (λ same. differ (sym same))) (ap (λ others. y ∷ others) (filter-other x l rest))
]

-- the members other than one are the list without it
pub filter-without : (past : Past) (x : ℕ) (l : List ℕ) → IsClosed past l
    → filter (λ y. not (nat_eq y x)) l ≡ without x l
filter-without past x [] closed = refl
filter-without past x (y ∷ l) closed = elim (cases_eq x y) [
  | inl same ↦ rw (eq-eqb x y same, eq-eqb y x (sym same))
      (filter-other x l (subst (λ (z : ℕ). has l z ≡ false) (sym same) closed.0.new))
  | inr differ ↦ rw (ne_eqb x y differ, ne_eqb y x (λ same. differ (sym same)))
      (ap (λ others. y ∷ others) (filter-without past x l closed.1))
]

-- what a function is over a range, with another value at one place
pub set-map_range : (h g : ℕ → ℕ) (a n i v : ℕ) → i < n → g (a + i) ≡ v → ((k : ℕ) → k ≢ a + i → g k ≡ h k)
    → slice_set (map h (range_with_len a n)) i v ≡ map g (range_with_len a n)
set-map_range h g a n i v inside here others =
    ext_get_or 0 (slice_set (map h (range_with_len a n)) i v) (map g (range_with_len a n))
    (length-set (map h (range_with_len a n)) i v ∙ length-map-range_with_len h a n
    ∙ sym (length-map-range_with_len g a n))
    (λ j below. at j (subst (λ (m : ℕ). j < m) (length-set (map h (range_with_len a n)) i v
    ∙ length-map-range_with_len h a n) below))
  where
    at : (j : ℕ) → j < n
        → get_or (slice_set (map h (range_with_len a n)) i v) j 0 ≡ get_or (map g (range_with_len a n)) j 0
    at j below = elim (cases_eq j i) [
      | inl same ↦
          let within : i < length (map h (range_with_len a n)) = rw (length-map-range_with_len h a n) inside in
          get_or-set_at (map h (range_with_len a n)) i j v 0 same within
          ∙ sym here ∙ sym (get_or-map-range_with_len g a n j (a + i) 0 below (ap (λ k. a + k) same))
      | inr differ ↦
          get_or-set_other (map h (range_with_len a n)) i j v 0 differ
          ∙ get_or-map-range_with_len h a n j (a + j) 0 below refl
          ∙ sym (others (a + j) (λ same. differ (omega (arith, same))))
          ∙ sym (get_or-map-range_with_len g a n j (a + j) 0 below refl)
    ]

-- a site's count in a clock
pub get_or-clock : (past : Past) (l : List ℕ) (t : ℕ) → 1 ≤ t → t ≤ MAX_SITES
    → get_or (clock past l) (t - 1) 0 ≡ from_site past t l
get_or-clock past l t low high =
    get_or-map-range_with_len (λ s. from_site past s l) 1 MAX_SITES (t - 1) t 0
    (omega (arith, low, high)) (omega (arith, low))

-- the clock of a list without a member: one less of its site
pub clock-without : (past : Past) (x : ℕ) (l : List ℕ)
    → ((t y : ℕ) (m : List ℕ) → has m y ≡ true → maker past y ≡ t
    → from_site past t m ≡ from_site past t (without y m) + 1)
    → ((t y : ℕ) (m : List ℕ) → maker past y ≢ t → from_site past t (without y m) ≡ from_site past t m)
    → has l x ≡ true → 1 ≤ maker past x → maker past x ≤ MAX_SITES
    → slice_set (clock past l) (maker past x - 1) (get_or (clock past l) (maker past x - 1) 0 - 1)
    ≡ clock past (without x l)
clock-without past x l taken_out others member low high =
    let t : ℕ = maker past x in
    let place : 1 + (t - 1) ≡ t = omega (arith, low) in
    let one_less : from_site past t l ≡ from_site past t (without x l) + 1 = taken_out t x l member refl in
    let at : get_or (clock past l) (t - 1) 0 ≡ from_site past t l = get_or-clock past l t low high in
    set-map_range (λ s. from_site past s l) (λ s. from_site past s (without x l)) 1 MAX_SITES (t - 1)
    (get_or (clock past l) (t - 1) 0 - 1)
    (omega (arith, low, high))
    (rw place (omega (arith, one_less, at)))
    (λ k differ. others k x l (λ same. differ (sym (place ∙ same))))
