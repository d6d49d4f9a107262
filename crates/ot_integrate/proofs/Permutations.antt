-- Lists in another order: the orders that name each number once are those of the numbers in turn.
use Rattle.std.proofs.Common.{◌≡◌, ◌≢◌, ℕ, zero, suc, ◌+◌, ◌⊎◌, List, [], ◌∷◌, ◌++◌, length, map, take, drop, Contains}
use Rattle.std.proofs.Common.{sym, ap, subst, ◌∙◌, arith, length-append, inl, inr}
use Rattle.std.specs.List.{AllByRecursion, range_with_len}
use Rattle.std.proofs.lemmas.List.{drop_more, take-append-drop}
use Rattle.std.proofs.lemmas.List.Elements.{Contains-append_cases, Contains-append_left, Contains-append_right}
use Rattle.fn_rules.specs.Orders.{NamesEachOnce}

-- the second list is the first in another order, which exchanges of neighbours reach
pub data IsReordered {X : Type 0} : List X → List X → Type 0 where
  none : IsReordered [] []
  more : (x : X) (xs ys : List X) → IsReordered xs ys → IsReordered (x ∷ xs) (x ∷ ys)
  flip : (x y : X) (xs : List X) → IsReordered (x ∷ y ∷ xs) (y ∷ x ∷ xs)
  chain : (xs ys zs : List X) → IsReordered xs ys → IsReordered ys zs → IsReordered xs zs

module _ {X : Type 0} where
  -- each list is itself in an order
  pub IsReordered-refl : (xs : List X) → IsReordered xs xs
  IsReordered-refl [] = none
  IsReordered-refl (x ∷ xs) = more x xs xs (IsReordered-refl xs)

  -- an element among others, taken to their front
  pub IsReordered-middle : (xs : List X) (y : X) (ys : List X) → IsReordered (y ∷ xs ++ ys) (xs ++ y ∷ ys)
  IsReordered-middle [] y ys = IsReordered-refl (y ∷ ys)
  IsReordered-middle (x ∷ xs) y ys =
      chain (y ∷ x ∷ xs ++ ys) (x ∷ y ∷ xs ++ ys) (x ∷ xs ++ y ∷ ys) (flip y x (xs ++ ys))
      (more x (y ∷ xs ++ ys) (xs ++ y ∷ ys) (IsReordered-middle xs y ys))

  -- the last element, taken to the front
  pub IsReordered-last : (xs : List X) (y : X) → IsReordered (xs ++ y ∷ []) (y ∷ xs)
  IsReordered-last [] y = IsReordered-refl (y ∷ [])
  IsReordered-last (x ∷ xs) y =
      chain (x ∷ xs ++ y ∷ []) (x ∷ y ∷ xs) (y ∷ x ∷ xs)
      (more x (xs ++ y ∷ []) (y ∷ xs) (IsReordered-last xs y)) (flip x y xs)

  -- what holds of each element holds of each in another order
  pub AllByRecursion-reordered : (P : X → Type 0) {xs ys : List X} → IsReordered xs ys
      → AllByRecursion P xs → AllByRecursion P ys
  AllByRecursion-reordered P none all = tt
  AllByRecursion-reordered P (more x xs ys tail) all = (all.0, AllByRecursion-reordered P tail all.1)
  AllByRecursion-reordered P (flip x y xs) all = (all.1.0, (all.0, all.1.1))
  AllByRecursion-reordered P (chain xs ys zs before after) all =
      AllByRecursion-reordered P after (AllByRecursion-reordered P before all)

  -- what a function makes of the elements comes in another order too
  pub IsReordered-map : {Y : Type 0} (g : X → Y) {xs ys : List X} → IsReordered xs ys
      → IsReordered (map g xs) (map g ys)
  IsReordered-map g none = none
  IsReordered-map g (more x xs ys tail) = more (g x) (map g xs) (map g ys) (IsReordered-map g tail)
  IsReordered-map g (flip x y xs) = flip (g x) (g y) (map g xs)
  IsReordered-map g (chain xs ys zs before after) =
      chain (map g xs) (map g ys) (map g zs) (IsReordered-map g before) (IsReordered-map g after)

  -- a list is what stands in front of an element, the element, and what stands behind
  pub parts_around : (xs : List X) (x : X) → Contains xs x → (front back : List X) × (xs ≡ front ++ x ∷ back)
  parts_around xs x (i, inside, is) = (
    take i xs,
    drop (i + 1) xs,
    sym (take-append-drop i xs)
        ∙ ap (λ rest. take i xs ++ rest) (drop_more xs i x inside ∙ ap (λ y. y ∷ drop (i + 1) xs) is),
  )

  -- an element is the first one or among the others
  Contains-cons_cases : (y : X) (xs : List X) (x : X) → Contains (y ∷ xs) x → (y ≡ x) ⊎ Contains xs x
  Contains-cons_cases y xs x (zero, inside, is) = inl is
  Contains-cons_cases y xs x (suc i, inside, is) = inr (i, omega arith, is)

  -- another element than the one in the middle is in front of it or behind it
  pub Contains-around : (front : List X) (y : X) (back : List X) (x : X) → y ≢ x → Contains (front ++ y ∷ back) x
      → Contains (front ++ back) x
  Contains-around front y back x apart has = elim (Contains-append_cases front (y ∷ back) x has) [
    | inl in_front ↦ Contains-append_left front back x in_front
    | inr behind ↦ elim (Contains-cons_cases y back x behind) [
      | inl same ↦ absurd (apart same)
      | inr in_back ↦ Contains-append_right front back x in_back
    ]
  ]

-- the last of some numbers in turn
range_with_len-last : (from n last : ℕ) → from + n ≡ last
    → range_with_len from (suc n) ≡ range_with_len from n ++ last ∷ []
range_with_len-last from zero last is = let same : from ≡ last = omega (arith, is) in ap (λ x. x ∷ []) same
range_with_len-last from (suc n) last is =
    ap (λ xs. from ∷ xs) (range_with_len-last (from + 1) n last (omega (arith, is)))

-- an order that names each number once is the numbers in turn, in another order
pub IsReordered-names_each_once : (n : ℕ) (order : List ℕ) → NamesEachOnce n order
    → IsReordered (range_with_len 0 n) order
IsReordered-names_each_once zero [] once = none
IsReordered-names_each_once zero (x ∷ order) once = absurd (omega (arith, once.0))
IsReordered-names_each_once (suc n) order once =
    let parts : (front back : List ℕ) × (order ≡ front ++ n ∷ back) = parts_around order n (once.1 n (omega arith)) in
    let front : List ℕ = parts.0 in
    let back : List ℕ = parts.1 in
    let long : length order ≡ length front + (length back + 1) = ap length parts.2
    ∙ length-append front (n ∷ back) ∙ omega arith in
    let others : NamesEachOnce n (front ++ back) = (
      length-append front back ∙ omega (arith, long, once.0),
      λ i below. Contains-around front n back i (λ same. omega (arith, same, below))
          (subst (λ (numbers : List ℕ). Contains numbers i) parts.2 (once.1 i (omega (arith, below)))),
    ) in
    let numbers : List ℕ = range_with_len 0 n in
    let by_parts : IsReordered (numbers ++ n ∷ []) (front ++ n ∷ back) =
    chain (numbers ++ n ∷ []) (n ∷ numbers) (front ++ n ∷ back) (IsReordered-last numbers n)
    (chain (n ∷ numbers) (n ∷ front ++ back) (front ++ n ∷ back)
    (more n numbers (front ++ back) (IsReordered-names_each_once n (front ++ back) others))
    (IsReordered-middle front n back)) in
    rw (range_with_len-last 0 n n (omega arith), parts.2) by_parts
