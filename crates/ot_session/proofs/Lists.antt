-- Lists of which each item has a fact.
use Rattle.std.proofs.Common.{◌≡◌, ◌≢◌, ◌<◌, ◌++◌, ◌∷◌, [], ℕ, zero, suc, List, length, map, Some, refl, ap, subst}
use Rattle.std.proofs.Common.{arith}
use Rattle.std.specs.Prelude.{slice_get, slice_set}
use Rattle.std.specs.List.{AllByRecursion}

module _ {X : Type 0} (P : X → Type 0) where
  pub AllByRecursion-push : (xs : List X) (y : X) → AllByRecursion P xs → P y → AllByRecursion P (xs ++ y ∷ [])
  AllByRecursion-push [] y all one = (one, tt)
  AllByRecursion-push (x ∷ xs) y all one = (all.0, AllByRecursion-push xs y all.1 one)

  pub AllByRecursion-set : (xs : List X) (i : ℕ) (y : X) → AllByRecursion P xs → P y
      → AllByRecursion P (slice_set xs i y)
  AllByRecursion-set [] i y all one = tt
  AllByRecursion-set (x ∷ xs) zero y all one = (one, all.1)
  AllByRecursion-set (x ∷ xs) (suc i) y all one = (all.0, AllByRecursion-set xs i y all.1 one)

  pub AllByRecursion-at : (xs : List X) (i : ℕ) (x : X) → AllByRecursion P xs → slice_get xs i ≡ Some x → P x
  AllByRecursion-at [] i x all is = cc
  AllByRecursion-at (y ∷ xs) zero x all is = let same : y ≡ x = cc in subst P same all.0
  AllByRecursion-at (y ∷ xs) (suc i) x all is = AllByRecursion-at xs i x all.1 is

pub AllByRecursion-map : {X Y : Type 0} (P : X → Type 0) (Q : Y → Type 0) (v : X → Y) → ((x : X) → P x → Q (v x))
    → (xs : List X) → AllByRecursion P xs → AllByRecursion Q (map v xs)
AllByRecursion-map P Q v keeps [] all = tt
AllByRecursion-map P Q v keeps (x ∷ xs) all = (keeps x all.0, AllByRecursion-map P Q v keeps xs all.1)

pub slice_get-set_same : {X : Type 0} (xs : List X) (i : ℕ) (y : X) → i < length xs
    → slice_get (slice_set xs i y) i ≡ Some y
slice_get-set_same [] i y inside = absurd (omega arith)
slice_get-set_same (x ∷ xs) zero y inside = refl
slice_get-set_same (x ∷ xs) (suc i) y inside = slice_get-set_same xs i y (omega arith)

pub slice_get-set_other : {X : Type 0} (xs : List X) (i j : ℕ) (y : X) → j ≢ i
    → slice_get (slice_set xs i y) j ≡ slice_get xs j
slice_get-set_other [] i j y differ = refl
slice_get-set_other (x ∷ xs) zero zero y differ = absurd (differ refl)
slice_get-set_other (x ∷ xs) zero (suc j) y differ = refl
slice_get-set_other (x ∷ xs) (suc i) zero y differ = refl
slice_get-set_other (x ∷ xs) (suc i) (suc j) y differ = slice_get-set_other xs i j y (λ same. differ (ap suc same))

pub slice_get-push_same : {X : Type 0} (xs : List X) (y : X) → slice_get (xs ++ y ∷ []) (length xs) ≡ Some y
slice_get-push_same [] y = refl
slice_get-push_same (x ∷ xs) y = slice_get-push_same xs y

pub slice_get-push_other : {X : Type 0} (xs : List X) (y : X) (i : ℕ) → i < length xs
    → slice_get (xs ++ y ∷ []) i ≡ slice_get xs i
slice_get-push_other [] y i inside = absurd (omega arith)
slice_get-push_other (x ∷ xs) y zero inside = refl
slice_get-push_other (x ∷ xs) y (suc i) inside = slice_get-push_other xs y i (omega arith)

pub AllByRecursion-from : {X : Type 0} (P : X → Type 0) (xs : List X)
    → ((i : ℕ) (x : X) → slice_get xs i ≡ Some x → P x) → AllByRecursion P xs
AllByRecursion-from P [] each = tt
AllByRecursion-from P (x ∷ xs) each = (each zero x refl, AllByRecursion-from P xs (λ i y is. each (suc i) y is))
