-- Lists that go on number by number.
use Rattle.std.proofs.Common.{◌≡◌, ◌≤◌, ◌+◌, ◌-◌, ◌++◌, ◌∷◌, ℕ, zero, suc, List, [], map, sym, ap, ◌∙◌, add-zero}
use Rattle.std.proofs.Common.{zero-add, add-one, append_assoc, arith}
use Rattle.std.specs.List.{flat_map, range_with_len}
use Rattle.std.proofs.lemmas.List.{flat_map_more}
use Rattle.std.proofs.lemmas.List.FromFn.{map-range_with_len_more}

-- one more number
range_more : (a n : ℕ) → range_with_len a (suc n) ≡ range_with_len a n ++ (a + n) ∷ []
range_more a zero = ap (λ m. m ∷ []) (sym (add-zero a))
range_more a (suc n) =
    let same : a + 1 + n ≡ a + suc n = omega arith in
    ap (λ l. a ∷ l) (range_more (a + 1) n ∙ ap (λ m. range_with_len (a + 1) n ++ m ∷ []) same)

-- the item of the next number, from 1 on
pub next_item : {X : Type 0} (f : ℕ → X) (start items : List X) (s : ℕ) → 1 ≤ s
    → items ≡ start ++ map f (range_with_len 1 (s - 1))
    → items ++ f s ∷ [] ≡ start ++ map f (range_with_len 1 (s + 1 - 1))
next_item f start items s low are =
    let next : 1 + (s - 1) ≡ s = omega arith in
    let count : s + 1 - 1 ≡ s - 1 + 1 = omega arith in
    ap (λ l. l ++ f s ∷ []) are
    ∙ append_assoc start (map f (range_with_len 1 (s - 1))) (f s ∷ [])
    ∙ ap (λ l. start ++ l) (sym (map-range_with_len_more f 1 (s - 1) s next))
    ∙ ap (λ n. start ++ map f (range_with_len 1 n)) (sym count)

-- the items of the next number, from 0 on
pub next_items : {X : Type 0} (f : ℕ → List X) (items more : List X) (n : ℕ) → items ≡ flat_map f (range_with_len 0 n)
    → more ≡ items ++ f n → more ≡ flat_map f (range_with_len 0 (n + 1))
next_items f items more n are is =
    let last : range_with_len 0 n ++ n ∷ [] ≡ range_with_len 0 (n + 1) =
    ap (λ m. range_with_len 0 n ++ m ∷ []) (sym (zero-add n)) ∙ sym (range_more 0 n)
    ∙ ap (λ m. range_with_len 0 m) (sym (add-one n)) in
    is ∙ ap (λ l. l ++ f n) are ∙ flat_map_more f [] (range_with_len 0 n) n ∙ ap (λ l. flat_map f l) last
