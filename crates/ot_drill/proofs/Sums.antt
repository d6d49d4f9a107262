-- Sums that go on item by item.
use Rattle.std.proofs.Common.{◌≡◌, ◌<◌, ◌+◌, ◌++◌, ◌∷◌, [], ℕ, List, length, map, take, get_or, ap, ◌∙◌, arith}
use Rattle.std.specs.List.{sum}
use Rattle.std.proofs.lemmas.Grind.{common_steps}
use Rattle.std.proofs.lemmas.List.{map-append, take_more}
use Rattle.std.proofs.lemmas.List.Sums.{sum_by-append}

-- one more item
pub sum_more : {X : Type 0} (f : X → ℕ) (xs : List X) (i count more : ℕ) (d : X) → i < length xs
    → count ≡ sum (map f (take i xs))
    → more ≡ f (get_or xs i d) → count + more ≡ sum (map f (take (i + 1) xs))
sum_more f xs i count more d within is same =
    let front : List ℕ = map f (take i xs) in
    let all : map f (take (i + 1) xs) ≡ front ++ f (get_or xs i d) ∷ [] =
    ap (λ l. map f l) (take_more xs i d within) ∙ map-append f (take i xs) (get_or xs i d ∷ []) in
    let both = sum_by-append (λ n. n) front (f (get_or xs i d) ∷ []) in
    grind (arith, common_steps)
