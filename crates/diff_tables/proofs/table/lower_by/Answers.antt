use Rattle.std.proofs.Common.{sym, refl, get_or, Some, None}
use Rattle.diff_tables.specs.Steps.{lower_of, joined}
use Rattle.diff_tables.proofs.RowSteps.{DoneBelow-more, DoneBelow-same}
use Rattle.diff_tables.proofs.table.lower_by.Goals.{in-Some, in_default}
use Rattle.diff_tables.proofs.table.lower_by.Goals as goal

-- one name more is lowered, or kept where the way is no lower
pub loop-x-preserved : goal.loop-x-preserved
loop-x-preserved c =
    elim c.match-lower.branch [
      | in-Some w ↦
          rw w.row-is
          (DoneBelow-more (λ x old. lower_of old (joined (get_or c.args.ways.now x None) (Some c.args.rest)))
          c.args.row.now c.loop-x.row c.loop-x.x _ c.loop-x.invariant c.loop-x-test.true (sym w.in-Some.ensures.lower))
      | in_default w ↦
          rw w.row-is
          (DoneBelow-same (λ x old. lower_of old (joined (get_or c.args.ways.now x None) (Some c.args.rest)))
          c.args.row.now c.loop-x.row c.loop-x.x c.loop-x.invariant (w.in_default.ensures.none refl))
    ]
