-- What holds of each obligation of a list, from what holds of the kinds.
use Rattle.std.proofs.Common.{◌≡◌, ℕ, zero, suc, ◌<◌, Bool, true, List, [], ◌∷◌, ◌++◌, length, map, filter, subst, inl}
use Rattle.std.proofs.Common.{inr, arith}
use Rattle.std.specs.Prelude.{slice_index_or}
use Rattle.std.specs.List.{AllByRecursion, Contains}
use Rattle.std.proofs.lemmas.Bool.{cases_Bool}
use Rattle.ot_model.specs.declared.op.Kind.{Kind}
use Rattle.fn_rules.specs.declared.function.ObName.{ObName}
use Rattle.fn_rules.specs.declared.function.ObName.TheVariants.{Pair, Triple}
use Rattle.fn_rules.specs.Obligations.{pairs_of, with_third, with_thirds, triples_of}

each_of :
    {X : Type 0} (P : X → Type 0) (xs : List X) (x : X) (i : ℕ) → AllByRecursion P xs → i < length xs
    → slice_index_or xs i x ≡ x → P x
each_of P [] x i h below is = absurd (omega arith)
each_of P (y ∷ ys) x zero h below is = subst (λ z. P z) is h.0
each_of P (y ∷ ys) x (suc i) h below is = each_of P ys x i h.1 (omega arith) is

pub of_contained : {X : Type 0} (P : X → Type 0) (xs : List X) (x : X) → AllByRecursion P xs → Contains xs x → P x
of_contained P xs x h listed = each_of P xs x listed.0 h listed.1 listed.2

pub each_appended : {X : Type 0} (P : X → Type 0) (xs ys : List X) → AllByRecursion P xs → AllByRecursion P ys
    → AllByRecursion P (xs ++ ys)
each_appended P [] ys h g = g
each_appended P (x ∷ xs) ys h g = (h.0, each_appended P xs ys h.1 g)

pub each_of_both : {X : Type 0} (P : X → Type 0) (xs ys : List X) → AllByRecursion P (xs ++ ys)
    → AllByRecursion P xs × AllByRecursion P ys
each_of_both P [] ys h = (tt, h)
each_of_both P (x ∷ xs) ys h = let both = each_of_both P xs ys h.1 in ((h.0, both.0), both.1)

each_mapped :
    {X Y : Type 0} (f : X → Y) (Q : X → Type 0) (P : Y → Type 0) → ((x : X) → Q x → P (f x))
    → (xs : List X) → AllByRecursion Q xs
    → AllByRecursion P (map f xs)
each_mapped f Q P g [] h = tt
each_mapped f Q P g (x ∷ xs) h = (g x h.0, each_mapped f Q P g xs h.1)

-- what a filter keeps passes its test
pub each_kept : {X : Type 0} (p : X → Bool) (xs : List X) → AllByRecursion (λ x. p x ≡ true) (filter p xs)
each_kept p [] = tt
each_kept p (x ∷ xs) =
    elim (cases_Bool (p x)) [
      | inl kept ↦ rw kept (kept, each_kept p xs)
      | inr dropped ↦ rw dropped (each_kept p xs)
    ]

module _ (Q : Kind → Type 0) (P : ObName → Type 0) where
  pub each_pair :
      ((k l : Kind) → Q k → Q l → P (Pair k l)) → (kinds : List Kind) → AllByRecursion Q kinds
      → AllByRecursion P (pairs_of kinds)
  each_pair g [] h = tt
  each_pair g (k ∷ others) h =
      each_appended P (map (Pair k) (k ∷ others)) (pairs_of others)
      (each_mapped (Pair k) Q P (λ l of_l. g k l h.0 of_l) (k ∷ others) h) (each_pair g others h.1)

  each_with_third :
      (pairs : List ObName) → AllByRecursion (λ ob. (m : Kind) → Q m → P (with_third m ob)) pairs
      → (kinds : List Kind) → AllByRecursion Q kinds → AllByRecursion P (with_thirds pairs kinds)
  each_with_third pairs g [] h = tt
  each_with_third pairs g (m ∷ others) h =
      each_appended P (map (with_third m) pairs) (with_thirds pairs others)
      (each_mapped (with_third m) (λ ob. (n : Kind) → Q n → P (with_third n ob)) P (λ ob of_ob. of_ob m h.0) pairs g)
      (each_with_third pairs g others h.1)

pub each_triple :
    (Q : Kind → Type 0) (P : ObName → Type 0) → ((k l m : Kind) → Q k → Q l → Q m → P (Triple k l m))
    → (kinds : List Kind) → AllByRecursion Q kinds → AllByRecursion P (triples_of kinds)
each_triple Q P g kinds h =
    each_with_third Q P (pairs_of kinds)
    (each_pair Q (λ ob. (m : Kind) → Q m → P (with_third m ob))
    (λ k l of_k of_l m of_m. g k l m of_k of_l of_m) kinds h) kinds h
