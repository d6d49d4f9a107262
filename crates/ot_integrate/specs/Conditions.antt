-- What holds of the operations as they were executed.
use Rattle.std.specs.Prelude.{ℕ, ◌+◌}
use Rattle.ot_model.specs.declared.limits.TheConstants.{MAX_CELLS, MAX_OPERATIONS}
use Rattle.ot_model.specs.declared.op.Op.{Op}
use Rattle.ot_model.specs.Operations.{kind_of}
use Rattle.fn_rules.specs.Functions.{Function, IsForKind}
use Rattle.fn_rules.specs.Conditions.{IsWithin}

-- the greatest number of cells of a document that can occur: each operation puts in one at most
abbrev pub most_cells : ℕ
most_cells = MAX_CELLS + MAX_OPERATIONS

-- an executed form: of a kind that the function is for, or nop, at a position of the documents that can
-- occur
pub record IsExecuted (f : Function) (o : Op) : Type 0 where
  pub declared : IsForKind f.head (kind_of o)
  pub near : IsWithin most_cells o
