use Rattle.std.proofs.Common.{arith, get_or, None}
use Rattle.std.proofs.lemmas.Int.{ints}
use Rattle.diff_tables.proofs.Closed.{low_of-le_zero}
use Rattle.diff_tables.proofs.AddingSteps.{low_of-bounded}
use Rattle.diff_tables.proofs.solver.low_of.Goals as goal

pub returns-clause-high_end : goal.returns-clause-high_end
returns-clause-high_end c =
    let high = low_of-le_zero (λ x. get_or c.args.cells.now x None) c.loop-cell.cell-index in
    omega (arith, ints)

pub returns-clause-low_end : goal.returns-clause-low_end
returns-clause-low_end c =
    let low = low_of-bounded (λ x. get_or c.args.cells.now x None) c.loop-cell.cell-index c.requires in
    omega (arith, ints)
