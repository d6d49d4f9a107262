-- Orders that name each operation once: what the test decides.
use Rattle.std.proofs.Common.{◌≡◌, ℕ, zero, suc, ◌<◌, true, List, length, subst, inl, inr, arith, nat_eq, eqb-true}
use Rattle.std.specs.List.{Contains, slice_index_or}
use Rattle.std.proofs.lemmas.Bool.{and_parts, cases_lt}
use Rattle.std.proofs.lemmas.List.Folds.{Any-from_list_any}
use Rattle.fn_rules.specs.Orders.{names, names_below, names_each_once, NamesEachOnce}

-- an order that names all numbers below one names each of them
pub names_below-names : (count i : ℕ) (order : List ℕ) → names_below count order ≡ true
    → i < count → names order i ≡ true
names_below-names zero i order all inside = absurd (omega arith)
names_below-names (suc n) i order all inside =
    let parts = and_parts (names_below n order) (names order n) all in
    elim (cases_lt i n) [
      | inl before ↦ names_below-names n i order parts.0 before
      | inr last ↦
          let same : n ≡ i = omega arith in
          subst (λ (k : ℕ). names order k ≡ true) same parts.1
    ]

names-contains : (order : List ℕ) (i : ℕ) → names order i ≡ true → Contains order i
names-contains order i is =
    let any = Any-from_list_any (λ number. nat_eq number i) order is in
    (any.0, any.2, subst (λ (x : ℕ). slice_index_or order any.0 x ≡ x) (eqb-true any.1 i any.4) any.3)

pub names_each_once-fact : (count : ℕ) (order : List ℕ) → names_each_once count order ≡ true → NamesEachOnce count order
names_each_once-fact count order is =
    let parts = and_parts (nat_eq (length order) count) (names_below count order) is in (
      eqb-true (length order) count parts.0,
      λ i inside. names-contains order i (names_below-names count i order parts.1 inside),
    )
