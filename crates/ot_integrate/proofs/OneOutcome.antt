-- Any two orders of concurrent operations end with one document, where both properties hold.
use Rattle.std.proofs.Common.{◌≡◌, ℕ, List, [], length, map, refl, sym, subst, ◌∙◌, arith}
use Rattle.std.specs.List.{range_with_len}
use Rattle.std.proofs.lemmas.Option.{unwrap_or-slice_get}
use Rattle.std.proofs.lemmas.List.FromFn.{fill_by_all, length-range_with_len, get_or-range_with_len}
use Rattle.ot_model.specs.declared.cell.Cell.{Cell}
use Rattle.ot_model.specs.declared.op.Op.{Op}
use Rattle.ot_model.specs.declared.op.Op.TheVariants.{Nop}
use Rattle.fn_rules.specs.Functions.{Function}
use Rattle.fn_rules.specs.Properties.{AreConcurrent, HasTp1, HasTp2}
use Rattle.fn_rules.specs.Forms.{CarriesForms}
use Rattle.fn_rules.specs.Orders.{Outcome, Document, outcome_from, operation_at, integrated, NamesEachOnce}
use Rattle.fn_rules.specs.Orders.{HasOneOutcome}
use Rattle.ot_integrate.specs.Ends.{listed_order, EndsAsListed}
use Rattle.ot_integrate.proofs.Permutations.{IsReordered, IsReordered-map, IsReordered-names_each_once}
use Rattle.ot_integrate.proofs.Swaps.{HasForm-concurrent, outcome_from-reordered, outcome_from-document}

-- the numbers in turn name the operations as they are listed
map-operation_at-in_turn : (ops : List Op) → ops ≡ map (operation_at ops) (range_with_len 0 (length ops))
map-operation_at-in_turn ops =
    fill_by_all (operation_at ops) ops (length ops) Nop refl (λ i inside. sym (unwrap_or-slice_get ops i Nop))

-- an order that names each operation once takes them in another order
IsReordered-named : (ops : List Op) (order : List ℕ) → NamesEachOnce (length ops) order
    → IsReordered ops (map (operation_at ops) order)
IsReordered-named ops order once =
    subst (λ (listed : List Op). IsReordered listed (map (operation_at ops) order)) (sym (map-operation_at-in_turn ops))
    (IsReordered-map (operation_at ops) (IsReordered-names_each_once (length ops) order once))

-- a function with both properties gives one outcome
pub HasOneOutcome-from_both : (f : Function) → CarriesForms f → HasOneOutcome f
HasOneOutcome-from_both f has d ops order other concurrent once other_once =
    (listed.0, as_listed order once, as_listed other other_once)
  where
    listed : (end : List Cell) × (outcome_from f d [] 0 ops ≡ Document end)
    listed = outcome_from-document f has d ops d [] 0 concurrent (HasForm-concurrent f has.keeps d ops concurrent)

    as_listed : (numbers : List ℕ) → NamesEachOnce (length ops) numbers → integrated f d ops numbers ≡ Document listed.0
    as_listed numbers each =
        sym (outcome_from-reordered f has d (IsReordered-named ops numbers each) d [] 0 concurrent
        (HasForm-concurrent f has.keeps d ops concurrent))
        ∙ listed.1

-- the numbers in turn name each number once
NamesEachOnce-in_turn : (n : ℕ) → NamesEachOnce n (range_with_len 0 n)
NamesEachOnce-in_turn n = (
  length-range_with_len 0 n,
  λ i below. (i, omega (arith, below, length-range_with_len 0 n), get_or-range_with_len 0 n i i below ∙ omega arith),
)

-- where the law holds, an outcome of concurrent operations in an order is the one of the listed order
pub EndsAsListed-from_law : ((f : Function) → HasTp1 f → HasTp2 f → HasOneOutcome f)
    → (f : Function) (d : List Cell) (ops : List Op) (order : List ℕ) (outcome : Outcome)
    → outcome ≡ integrated f d ops order
    → HasTp1 f → HasTp2 f → AreConcurrent f d ops → NamesEachOnce (length ops) order → EndsAsListed f d ops outcome
EndsAsListed-from_law law f d ops order outcome is tp1 tp2 concurrent once =
    let both : (end : List Cell) × (integrated f d ops order ≡ Document end)
    × (integrated f d ops (listed_order ops) ≡ Document end) =
    law f tp1 tp2 d ops order (listed_order ops) concurrent once (NamesEachOnce-in_turn (length ops)) in
    (both.0, is ∙ both.1, both.2)
