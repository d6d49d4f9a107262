-- Operations that can be transformed: of the function's kinds, at positions that can be calculated with.
use Rattle.std.specs.Prelude.{ℕ, ◌+◌, ◌*◌, ◌-◌, ◌≤◌, List, length}
use Rattle.std.specs.List.{All}
use Rattle.ot_model.specs.declared.limits.TheConstants.{MAX_CELLS}
use Rattle.ot_model.specs.declared.op.Op.{Op}
use Rattle.ot_model.specs.Operations.{kind_of}
use Rattle.fn_rules.specs.Functions.{Function, IsForKind}
use Rattle.fn_rules.specs.Conditions.{IsWithin}
use Rattle.ot_hub.specs.declared.placed.PlacedOp.{PlacedOp}
use Rattle.ot_hub.specs.declared.limits.TheConstants.{MAX_EDITS}

-- nop, or of a kind that the function is for, at most so far from 0
pub record IsUsable (f : Function) (m : ℕ) (o : Op) : Type 0 where
  pub declared : IsForKind f.head (kind_of o)
  pub near : IsWithin m o

abbrev pub AreUsable : Function → ℕ → List PlacedOp → Type 0
AreUsable f m list = All (λ b. IsUsable f m b.op) list

-- how far an operation may be from 0 that is still to be carried over so many others: each moves it by at most 99
abbrev pub farthest_carried : ℕ → ℕ
farthest_carried count = 1099511627776 - 99 * count

-- an operation that can be carried over a list
pub record CanBeCarried (f : Function) (o : Op) (others : List PlacedOp) : Type 0 where
  pub few : length others ≤ MAX_EDITS
  pub op : IsUsable f (farthest_carried (length others)) o
  pub list : AreUsable f (farthest_carried (length others)) others

-- the greatest number of cells that a document can have
abbrev pub most_hub_cells : ℕ
most_hub_cells = MAX_CELLS + 2 * MAX_EDITS

-- how far from 0 an operation is that was carried so often over lists of at most MAX_EDITS operations
abbrev pub reach : ℕ → ℕ
reach times = most_hub_cells + 99 * MAX_EDITS * times
