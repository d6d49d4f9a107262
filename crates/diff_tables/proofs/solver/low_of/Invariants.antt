use Rattle.std.proofs.Common.{◌≡◌, get_or, None}
use Rattle.diff_tables.specs.Steps.{low_of}
use Rattle.diff_tables.proofs.solver.low_of.Given as goal

abbrev pub invariant-loop-cell : goal.invariant-loop-cell
invariant-loop-cell l = l.low ≡ low_of (λ x. get_or l.cells x None) l.cell-index
