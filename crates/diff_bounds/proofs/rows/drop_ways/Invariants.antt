use Rattle.std.proofs.Common.{get_or, None}
use Rattle.diff_tables.proofs.RowSteps.{DoneBelow}
use Rattle.diff_bounds.specs.Kept.{lower_way}
use Rattle.diff_bounds.proofs.rows.drop_ways.Given as goal

abbrev pub invariant-loop-x : goal.invariant-loop-x
invariant-loop-x l = DoneBelow (λ x old. lower_way (get_or l.row x None) old) l.initial.ways l.ways l.x
