-- Places behind insertions: the smaller place stays, and at one place the smaller rank.
use Rattle.std.proofs.Common.{◌≡◌, ◌≢◌, ℕ, ◌<◌, ℤ, pos, ◌+ℤ◌, ◌≤ℤ◌, true, false, ◌&&◌, ◌||◌, if◌then◌else◌, int_lt}
use Rattle.std.proofs.Common.{nat_lt, inl, inr, ◌⊎◌, arith}
use Rattle.std.specs.Ordering.{int_eq}
use Rattle.std.proofs.lemmas.Bool.{cases_Bool, cases_lt}
use Rattle.std.proofs.lemmas.Int.{ints}

-- one place with its rank comes before another
pub record IsBefore (p : ℤ) (s : ℕ) (q : ℤ) (t : ℕ) : Type 0 where
  pub place : p ≤ℤ q
  pub rank : p ≡ q → s < t

-- where a place with its rank is behind an insertion at another
unfoldable pub place_behind : ℤ → ℕ → ℤ → ℕ → ℤ
place_behind p s q t = if int_lt p q || (int_eq p q && nat_lt s t) then p else p +ℤ pos 1

-- one that comes before the insertion stays
pub before_stays : (p q : ℤ) (s t : ℕ) → IsBefore p s q t → place_behind p s q t ≡ p
unfolding place_behind
before_stays p q s t h = grind (arith, ints)

-- one that the insertion comes before moves up
pub behind_moves : (p q : ℤ) (s t : ℕ) → IsBefore q t p s → place_behind p s q t ≡ p +ℤ pos 1
unfolding place_behind
behind_moves p q s t h = grind (arith, ints)

-- the smaller place comes before the other, whatever the ranks
smaller_place : (p q : ℤ) (s t : ℕ) → int_lt p q ≡ true → IsBefore p s q t
smaller_place p q s t h = record { place = grind (arith, ints); rank = λ e. grind (arith, ints) }

-- and so does the smaller rank where its place is not the greater one
smaller_rank : (p q : ℤ) (s t : ℕ) → int_lt q p ≡ false → s < t → IsBefore p s q t
smaller_rank p q s t not_behind h = record { place = grind (arith, ints); rank = λ e. h }

-- places of two ranks are in one of two orders
pub one_is_before : (p q : ℤ) (s t : ℕ) → s ≢ t → IsBefore p s q t ⊎ IsBefore q t p s
one_is_before p q s t apart =
    elim (cases_Bool (int_lt p q)) [
      | inl before ↦ inl (smaller_place p q s t before)
      | inr not_before ↦ elim (cases_Bool (int_lt q p)) [
        | inl behind ↦ inr (smaller_place q p t s behind)
        | inr not_behind ↦ elim (cases_lt s t) [
          | inl smaller ↦ inl (smaller_rank p q s t not_behind smaller)
          | inr not_smaller ↦ inr (smaller_rank q p t s not_before (omega arith))
        ]
      ]
    ]

-- one that comes before the first of two comes before the second, moved up or not
first_of_three : (p q r : ℤ) (s t u : ℕ) → IsBefore p s q t → IsBefore r u p s
    → IsBefore r u q t × IsBefore r u (q +ℤ pos 1) t
first_of_three p q r s t u h g = (
  record { place = grind (arith, ints); rank = λ e. grind (arith, ints) },
  record { place = grind (arith, ints); rank = λ e. grind (arith, ints) },
)

-- two that both move up keep their order
moved_before : (r q : ℤ) (u t : ℕ) → IsBefore r u q t → IsBefore (r +ℤ pos 1) u (q +ℤ pos 1) t
moved_before r q u t h = record { place = grind (arith, ints); rank = λ e. grind (arith, ints) }

-- the first of two comes before one behind the second, moved up or not
last_of_three : (p q r : ℤ) (s t u : ℕ) → IsBefore p s q t → IsBefore q t r u
    → IsBefore p s r u × IsBefore p s (r +ℤ pos 1) u
last_of_three p q r s t u h g = (
  record { place = grind (arith, ints); rank = λ e. grind (arith, ints) },
  record { place = grind (arith, ints); rank = λ e. grind (arith, ints) },
)

-- behind two insertions a place is one, in whichever order they were executed
pub place_behind-both :
    (p q r : ℤ) (s t u : ℕ) → IsBefore p s q t → u ≢ s → u ≢ t
    → place_behind (place_behind r u p s) u (q +ℤ pos 1) t ≡ place_behind (place_behind r u q t) u p s
place_behind-both p q r s t u h of_s of_t =
    elim (one_is_before r p u s of_s) [
      | inl first ↦
          (let later = first_of_three p q r s t u h first in
          let by_p = before_stays r p u s first in
          let by_q = before_stays r q u t later.0 in
          let by_moved = before_stays r (q +ℤ pos 1) u t later.1 in
          cc)
      | inr behind ↦
          (let by_p = behind_moves r p u s behind in
          elim (one_is_before r q u t of_t) [
            | inl between ↦
                (let by_q = before_stays r q u t between in
                let by_moved = before_stays (r +ℤ pos 1) (q +ℤ pos 1) u t (moved_before r q u t between) in
                cc)
            | inr last ↦
                (let by_q = behind_moves r q u t last in
                let by_moved = behind_moves (r +ℤ pos 1) (q +ℤ pos 1) u t (moved_before q r t u last) in
                let then_p = behind_moves (r +ℤ pos 1) p u s ((last_of_three p q r s t u h last).1) in
                cc)
          ])
    ]
