use Rattle.diff_bounds.proofs.rows.lower_rows.Goals as goal

pub loop-y-preserved : goal.loop-y-preserved
loop-y-preserved g c =
    c.lowered_rows_keep_the_step.ensures.one_more c.args.ways.now c.args.from c.args.rows.now c.loop-y.rows c.loop-y.y
    c.lower_led.new.row c.loop-y.invariant c.loop-y-test.true c.lower_led.ensures
