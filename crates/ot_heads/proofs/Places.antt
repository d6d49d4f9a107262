-- Places behind insertions: the smaller place stays, and at one place the one of no greater rank.
use Rattle.std.proofs.Common.{◌≡◌, ℕ, ◌<◌, ◌≤◌, ℤ, pos, ◌+ℤ◌, ◌≤ℤ◌, true, false, ◌&&◌, ◌||◌, if◌then◌else◌, int_lt, inl}
use Rattle.std.proofs.Common.{inr, ◌⊎◌, arith}
use Rattle.std.specs.Prelude.{nat_le}
use Rattle.std.specs.Ordering.{int_eq}
use Rattle.std.proofs.lemmas.Bool.{cases_Bool, cases_lt}
use Rattle.std.proofs.lemmas.Int.{ints}

-- one place with its rank comes before another, or is the same
pub record IsUpTo (p : ℤ) (s : ℕ) (q : ℤ) (t : ℕ) : Type 0 where
  pub place : p ≤ℤ q
  pub rank : p ≡ q → s ≤ t

-- it comes before the other
pub record IsBefore (p : ℤ) (s : ℕ) (q : ℤ) (t : ℕ) : Type 0 where
  pub place : p ≤ℤ q
  pub rank : p ≡ q → s < t

-- where a place with its rank is behind an insertion at another
unfoldable pub place_behind : ℤ → ℕ → ℤ → ℕ → ℤ
place_behind p s q t = if int_lt p q || (int_eq p q && nat_le s t) then p else p +ℤ pos 1

-- one that does not come after the insertion stays
pub upto_stays : (p q : ℤ) (s t : ℕ) → IsUpTo p s q t → place_behind p s q t ≡ p
unfolding place_behind
upto_stays p q s t h = grind (arith, ints)

-- one that the insertion comes before moves up
pub behind_moves : (p q : ℤ) (s t : ℕ) → IsBefore q t p s → place_behind p s q t ≡ p +ℤ pos 1
unfolding place_behind
behind_moves p q s t h = grind (arith, ints)

-- one that comes before another is not after it
pub before_is_upto : (p q : ℤ) (s t : ℕ) → IsBefore p s q t → IsUpTo p s q t
before_is_upto p q s t h = record { place = h.place; rank = λ e. let low = h.rank e in omega (arith, low) }

smaller_place : (p q : ℤ) (s t : ℕ) → int_lt p q ≡ true → IsBefore p s q t
smaller_place p q s t h = record { place = grind (arith, ints); rank = λ e. grind (arith, ints) }

smaller_rank : (p q : ℤ) (s t : ℕ) → int_lt q p ≡ false → s < t → IsBefore p s q t
smaller_rank p q s t not_behind h = record { place = grind (arith, ints); rank = λ e. h }

no_greater_rank : (p q : ℤ) (s t : ℕ) → int_lt q p ≡ false → s ≤ t → IsUpTo p s q t
no_greater_rank p q s t not_behind h = record { place = grind (arith, ints); rank = λ e. h }

-- of two places the first is up to the second, or the second before the first
pub upto_or_behind : (p q : ℤ) (s t : ℕ) → IsUpTo p s q t ⊎ IsBefore q t p s
upto_or_behind p q s t =
    elim (cases_Bool (int_lt p q)) [
      | inl before ↦ inl (before_is_upto p q s t (smaller_place p q s t before))
      | inr not_before ↦ elim (cases_Bool (int_lt q p)) [
        | inl behind ↦ inr (smaller_place q p t s behind)
        | inr not_behind ↦ elim (cases_lt t s) [
          | inl smaller ↦ inr (smaller_rank q p t s not_before smaller)
          | inr not_smaller ↦ inl (no_greater_rank p q s t not_behind not_smaller)
        ]
      ]
    ]

-- two places that are up to one another are one, with one rank
pub one_place : (p q : ℤ) (s t : ℕ) → IsUpTo p s q t → IsUpTo q t p s → (p ≡ q) × (s ≡ t)
one_place p q s t h g =
    let same : p ≡ q = omega (arith, ints, h.place, g.place) in
    (same, let low = h.rank same in let high = g.rank (omega (arith, ints, same)) in omega (arith, low, high))

-- one up to the first of two is before the second, moved up or not
first_of_three : (p q r : ℤ) (s t u : ℕ) → IsBefore p s q t → IsUpTo r u p s
    → IsUpTo r u q t × IsUpTo r u (q +ℤ pos 1) t
first_of_three p q r s t u h g = (
  record { place = grind (arith, ints); rank = λ e. grind (arith, ints) },
  record { place = grind (arith, ints); rank = λ e. grind (arith, ints) },
)

-- two that both move up keep their order
moved_upto : (r q : ℤ) (u t : ℕ) → IsUpTo r u q t → IsUpTo (r +ℤ pos 1) u (q +ℤ pos 1) t
moved_upto r q u t h = record { place = grind (arith, ints); rank = λ e. grind (arith, ints) }

moved_before : (r q : ℤ) (u t : ℕ) → IsBefore r u q t → IsBefore (r +ℤ pos 1) u (q +ℤ pos 1) t
moved_before r q u t h = record { place = grind (arith, ints); rank = λ e. grind (arith, ints) }

-- the first of two comes before one behind the second, moved up
last_of_three : (p q r : ℤ) (s t u : ℕ) → IsBefore p s q t → IsBefore q t r u → IsBefore p s (r +ℤ pos 1) u
last_of_three p q r s t u h g = record { place = grind (arith, ints); rank = λ e. grind (arith, ints) }

-- behind two insertions a place is one, in whichever order they were executed
pub place_behind-both :
    (p q r : ℤ) (s t u : ℕ) → IsBefore p s q t
    → place_behind (place_behind r u p s) u (q +ℤ pos 1) t ≡ place_behind (place_behind r u q t) u p s
place_behind-both p q r s t u h =
    elim (upto_or_behind r p u s) [
      | inl first ↦
          (let later = first_of_three p q r s t u h first in
          let by_p = upto_stays r p u s first in
          let by_q = upto_stays r q u t later.0 in
          let by_moved = upto_stays r (q +ℤ pos 1) u t later.1 in
          cc)
      | inr behind ↦
          (let by_p = behind_moves r p u s behind in
          elim (upto_or_behind r q u t) [
            | inl between ↦
                (let by_q = upto_stays r q u t between in
                let by_moved = upto_stays (r +ℤ pos 1) (q +ℤ pos 1) u t (moved_upto r q u t between) in
                cc)
            | inr last ↦
                (let by_q = behind_moves r q u t last in
                let by_moved = behind_moves (r +ℤ pos 1) (q +ℤ pos 1) u t (moved_before q r t u last) in
                let then_p = behind_moves (r +ℤ pos 1) p u s (last_of_three p q r s t u h last) in
                cc)
          ])
    ]

-- two places move up by one insertion to two places, or to one place where they were one
pub place_behind-apart :
    (p r q : ℤ) (u t : ℕ) → int_eq (place_behind p u q t) (place_behind r u q t) ≡ int_eq p r
unfolding place_behind
place_behind-apart p r q u t = grind (arith, ints)
