use Rattle.std.proofs.Common.{arith, length, ◌-ℤ◌}
use Rattle.std.proofs.lemmas.Int.{ints}
use Rattle.diff_tables.specs.Tables.{kept_of}
use Rattle.diff_tables.specs.Steps.{value_in}
use Rattle.diff_tables.proofs.AddingSteps.{one_more_value}
use Rattle.diff_tables.proofs.solver.values_of.Goals as goal

pub loop-x-preserved : goal.loop-x-preserved
loop-x-preserved c =
    rw c.in_ok-push.ensures.items
    (one_more_value (λ y. value_in (length c.args.rows.now) (kept_of c.args.rows.now) y
    -ℤ value_in (length c.args.rows.now) (kept_of c.args.rows.now) 0)
    c.loop-x.values.items c.loop-x.x _ c.loop-x.invariant (omega (arith, ints)))
