-- The outcome of integrating, one place of the order after the other.
use Rattle.std.proofs.Common.{◌≡◌, ℕ, ◌+◌, ◌<◌, ◌≤◌, true, false, List, [], ◌∷◌, ◌++◌, length, map, drop, get_or, Some}
use Rattle.std.proofs.Common.{None, refl, ap, subst, All, inl, inr}
use Rattle.std.proofs.lemmas.Option.{slice_get_cases}
use Rattle.std.proofs.lemmas.List.{drop_more, drop_all}
use Rattle.ot_model.specs.declared.cell.Cell.{Cell}
use Rattle.ot_model.specs.declared.op.Op.{Op}
use Rattle.ot_model.specs.declared.op.Op.TheVariants.{Nop}
use Rattle.ot_model.specs.Effect.{is_enabled, document_after}
use Rattle.fn_rules.specs.Functions.{Function}
use Rattle.fn_rules.specs.Orders.{Document, StuckAt, through, outcome_from, operation_at}

-- a fact of all operations and of nop is one of what a number names
pub operation_at-fact : (P : Op → Type 0) (ops : List Op) (number : ℕ) → All P ops → P Nop → P (operation_at ops number)
operation_at-fact P ops number all nop = elim ((slice_get_cases ops number).1) [
  | inl inside ↦ rw inside.2 (subst P inside.3 (all number inside.0 inside.1))
  | inr outside ↦ rw outside.1 nop
]

-- the next place of an order
module _ (f : Function) (d : List Cell) (executed ops : List Op) (order : List ℕ) (place : ℕ)
    (inside : place < length order) where
  abbrev named : Op
  named = operation_at ops (get_or order place 0)

  abbrev rest : ℕ → List Op
  rest i = map (operation_at ops) (drop i order)

  rest-next : rest place ≡ named ∷ rest (place + 1)
  rest-next = ap (map (operation_at ops)) (drop_more order place 0 inside)

  pub outcome-without_form : through f named executed ≡ None
      → outcome_from f d executed place (rest place) ≡ StuckAt place
  outcome-without_form none = rw (rest-next, none) refl

  pub outcome-refused : (p : Op) → through f named executed ≡ Some p → is_enabled p (length d) ≡ false
      → outcome_from f d executed place (rest place) ≡ StuckAt place
  outcome-refused p form refused = rw (rest-next, form, refused) refl

  pub outcome-executed : (p : Op) → through f named executed ≡ Some p → is_enabled p (length d) ≡ true
      → outcome_from f d executed place (rest place)
      ≡ outcome_from f (document_after f.head.mode p d) (executed ++ p ∷ []) (place + 1) (rest (place + 1))
  outcome-executed p form enabled = rw (rest-next, form, enabled) refl

-- the end of an order
pub outcome-end : (f : Function) (d : List Cell) (executed ops : List Op) (order : List ℕ) (place : ℕ)
    → length order ≤ place
    → outcome_from f d executed place (map (operation_at ops) (drop place order)) ≡ Document d
outcome-end f d executed ops order place all = rw (drop_all place order all) refl
