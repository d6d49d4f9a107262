use Rattle.std.proofs.Common.{arith, get_or, None}
use Rattle.diff_tables.proofs.RowSteps.{DoneBelow-more}
use Rattle.diff_bounds.specs.Kept.{lower_way}
use Rattle.diff_bounds.proofs.rows.drop_ways.Goals as goal

pub loop-x-preserved : goal.loop-x-preserved
loop-x-preserved c =
    DoneBelow-more (λ x old. lower_way (get_or c.args.row.now x None) old) c.args.ways.now c.loop-x.ways c.loop-x.x
    c.lower_way.result c.loop-x.invariant c.loop-x-test.true c.lower_way.ensures

pub returns-clause-lower : goal.returns-clause-lower
returns-clause-lower c = λ x below. c.loop-x.invariant.done x (omega arith)
