-- Kinds and operations, a row for each. What the other lemmas of this project say of all kinds rests on these.
use Rattle.std.proofs.Common.{◌≡◌, ◌<◌, ℕ, List, [], ◌∷◌, length, map, refl, ap, sym, subst, lit<, arith}
use Rattle.std.specs.Prelude.{zero, suc, slice_index_or}
use Rattle.std.specs.List.{Contains, flat_map}
use Rattle.std.proofs.lemmas.List.Elements.{Contains-append_left, Contains-append_right}
use Rattle.ot_model.specs.declared.op.Kind.{Kind}
use Rattle.ot_model.specs.declared.op.Kind.TheVariants.{Ins, Del, Upd}
use Rattle.ot_model.specs.declared.op.TheConstants.{KINDS}
use Rattle.ot_model.specs.Kinds.{kind_rank, kind_pairs}

pub Contains-kind : (k : Kind) → Contains KINDS k
Contains-kind Ins = (kind_rank Ins, lit< tt, refl)
Contains-kind Del = (kind_rank Del, lit< tt, refl)
Contains-kind Upd = (kind_rank Upd, lit< tt, refl)

-- what stands in one of the lists that members give stands in all of them
pub Contains-flat_map : {X A : Type 0} (f : X → List A) (xs : List X) (x : X) (a : A) (i : ℕ) →
    i < length xs → slice_index_or xs i x ≡ x → Contains (f x) a → Contains (flat_map f xs) a
Contains-flat_map f [] x a i below is here = absurd (omega arith)
Contains-flat_map f (y ∷ ys) x a zero below is here =
    Contains-append_left (f y) (flat_map f ys) a (subst (λ z. Contains (f z) a) (sym is) here)
Contains-flat_map f (y ∷ ys) x a (suc i) below is here =
    Contains-append_right (f y) (flat_map f ys) a (Contains-flat_map f ys x a i (omega arith) is here)

-- what a list holds, its image holds
pub Contains-map : {X A : Type 0} (f : X → A) (xs : List X) (x : X) (i : ℕ) → i < length xs → slice_index_or xs i x ≡ x
    → Contains (map f xs) (f x)
Contains-map f [] x i below is = absurd (omega arith)
Contains-map f (y ∷ ys) x zero below is = Contains-append_left (f y ∷ []) (map f ys) (f x) (0, lit< tt, ap f is)
Contains-map f (y ∷ ys) x (suc i) below is =
    Contains-append_right (f y ∷ []) (map f ys) (f x) (Contains-map f ys x i (omega arith) is)

-- each pair of kinds is listed
pub Contains-pair : (k l : Kind) → Contains kind_pairs (k, l)
Contains-pair k l =
    let first = Contains-kind k in
    let second = Contains-kind l in
    Contains-flat_map (λ (x : Kind). map (λ (y : Kind). (x, y)) KINDS) KINDS k (k, l) first.0 first.1 first.2
    (Contains-map (λ (y : Kind). (k, y)) KINDS l second.0 second.1 second.2)
