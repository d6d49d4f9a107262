use Rattle.std.proofs.Common.{get_or, Some, None}
use Rattle.diff_tables.specs.Steps.{lower_of, joined}
use Rattle.diff_tables.proofs.RowSteps.{DoneBelow}
use Rattle.diff_tables.proofs.table.lower_by.Given as goal

abbrev pub invariant-loop-x : goal.invariant-loop-x
invariant-loop-x l =
    DoneBelow (λ x old. lower_of old (joined (get_or l.ways x None) (Some l.rest))) l.initial.row l.row l.x
