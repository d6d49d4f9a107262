-- The obligations that the kinds of a function have.
use Rattle.std.proofs.Common.{◌≡◌, ℕ, zero, suc, ◌<◌, Bool, true, List, [], ◌∷◌, length, map, sym, subst, inl, inr}
use Rattle.std.proofs.Common.{lit<, arith}
use Rattle.std.specs.Prelude.{◌⊎◌, filter, slice_index_or}
use Rattle.std.specs.List.{Contains}
use Rattle.std.proofs.lemmas.List.Elements.{Contains-append_left, Contains-append_right}
use Rattle.std.proofs.lemmas.Bool.{cases_Bool}
use Rattle.ot_model.specs.declared.op.Kind.{Kind}
use Rattle.ot_model.specs.declared.op.TheConstants.{KINDS}
use Rattle.ot_model.proofs.KindRows.{Contains-kind, Contains-map}
use Rattle.fn_rules.specs.declared.function.Head.{Head}
use Rattle.fn_rules.specs.declared.function.ObName.{ObName}
use Rattle.fn_rules.specs.declared.function.ObName.TheVariants.{Pair, Triple}
use Rattle.fn_rules.specs.Functions.{is_declared}
use Rattle.fn_rules.specs.Obligations.{declared_kinds, pairs_of, with_third, with_thirds, triples_of}

-- what passes the test is kept
Contains-filter : {X : Type 0} (p : X → Bool) (xs : List X) (x : X) (i : ℕ) → p x ≡ true →
    i < length xs → slice_index_or xs i x ≡ x → Contains (filter p xs) x
Contains-filter p [] x i passes below is = absurd (omega arith)
Contains-filter p (y ∷ ys) x zero passes below is =
    let here : p y ≡ true = subst (λ z. p z ≡ true) (sym is) passes in
    rw here (Contains-append_left (y ∷ []) (filter p ys) x (0, lit< tt, is))
Contains-filter p (y ∷ ys) x (suc i) passes below is =
    let behind = Contains-filter p ys x i passes (omega arith) is in
    elim (cases_Bool (p y)) [
      | inl kept ↦ rw kept (Contains-append_right (y ∷ []) (filter p ys) x behind)
      | inr dropped ↦ rw dropped behind
    ]

pub Contains-declared : (head : Head) (k : Kind) → is_declared head k ≡ true → Contains (declared_kinds head) k
Contains-declared head k declared =
    let listed = Contains-kind k in
    Contains-filter (is_declared head) KINDS k listed.0 declared listed.1 listed.2

-- of two kinds of a list, the pair in one of the two orders is one of the list's pairs
Contains-pairs_of : (kinds : List Kind) (k l : Kind) (i j : ℕ) →
    i < length kinds → slice_index_or kinds i k ≡ k → j < length kinds → slice_index_or kinds j l ≡ l →
    Contains (pairs_of kinds) (Pair k l) ⊎ Contains (pairs_of kinds) (Pair l k)
Contains-pairs_of [] k l i j below_i is_k below_j is_l = absurd (omega arith)
Contains-pairs_of (first ∷ others) k l zero j below_i is_k below_j is_l =
    inl (Contains-append_left (map (Pair first) (first ∷ others)) (pairs_of others) (Pair k l)
    (subst (λ x. Contains (map (Pair first) (first ∷ others)) (Pair x l)) is_k
    (Contains-map (Pair first) (first ∷ others) l j below_j is_l)))
Contains-pairs_of (first ∷ others) k l (suc i) zero below_i is_k below_j is_l =
    inr (Contains-append_left (map (Pair first) (first ∷ others)) (pairs_of others) (Pair l k)
    (subst (λ x. Contains (map (Pair first) (first ∷ others)) (Pair x k)) is_l
    (Contains-map (Pair first) (first ∷ others) k (suc i) below_i is_k)))
Contains-pairs_of (first ∷ others) k l (suc i) (suc j) below_i is_k below_j is_l =
    elim (Contains-pairs_of others k l i j (omega arith) is_k (omega arith) is_l) [
      | inl one ↦ inl (Contains-append_right (map (Pair first) (first ∷ others)) (pairs_of others) (Pair k l) one)
      | inr other ↦ inr (Contains-append_right (map (Pair first) (first ∷ others)) (pairs_of others) (Pair l k) other)
    ]

pub Contains-declared_pair : (head : Head) (k l : Kind) → is_declared head k ≡ true → is_declared head l ≡ true →
    Contains (pairs_of (declared_kinds head)) (Pair k l) ⊎ Contains (pairs_of (declared_kinds head)) (Pair l k)
Contains-declared_pair head k l first second =
    let of_k = Contains-declared head k first in
    let of_l = Contains-declared head l second in
    Contains-pairs_of (declared_kinds head) k l of_k.0 of_l.0 of_k.1 of_k.2 of_l.1 of_l.2

Contains-with_thirds : (pairs : List ObName) (kinds : List Kind) (m : Kind) (pair : ObName) (i : ℕ) →
    i < length kinds → slice_index_or kinds i m ≡ m → Contains pairs pair
    → Contains (with_thirds pairs kinds) (with_third m pair)
Contains-with_thirds pairs [] m pair i below is listed = absurd (omega arith)
Contains-with_thirds pairs (first ∷ others) m pair zero below is listed =
    Contains-append_left (map (with_third first) pairs) (with_thirds pairs others) (with_third m pair)
    (subst (λ x. Contains (map (with_third first) pairs) (with_third x pair)) is
    (Contains-map (with_third first) pairs pair listed.0 listed.1 listed.2))
Contains-with_thirds pairs (first ∷ others) m pair (suc i) below is listed =
    Contains-append_right (map (with_third first) pairs) (with_thirds pairs others) (with_third m pair)
    (Contains-with_thirds pairs others m pair i (omega arith) is listed)

-- a listed pair with a third kind is a listed triple
Contains-third : (kinds : List Kind) (k l m : Kind) → Contains kinds m → Contains (pairs_of kinds) (Pair k l)
    → Contains (triples_of kinds) (Triple k l m)
Contains-third kinds k l m third pair =
    Contains-with_thirds (pairs_of kinds) kinds m (Pair k l) third.0 third.1 third.2 pair

pub Contains-declared_triple : (head : Head) (k l m : Kind) → is_declared head k ≡ true → is_declared head l ≡ true
    → is_declared head m ≡ true →
    Contains (triples_of (declared_kinds head)) (Triple k l m)
    ⊎ Contains (triples_of (declared_kinds head)) (Triple l k m)
Contains-declared_triple head k l m first second third =
    let of_m = Contains-declared head m third in
    elim (Contains-declared_pair head k l first second) [
      | inl one ↦ inl (Contains-third (declared_kinds head) k l m of_m one)
      | inr other ↦ inr (Contains-third (declared_kinds head) l k m of_m other)
    ]
