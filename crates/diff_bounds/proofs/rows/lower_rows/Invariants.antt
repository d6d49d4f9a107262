use Rattle.diff_tables.specs.Steps.{AreLowered}
use Rattle.diff_bounds.proofs.rows.lower_rows.Given as goal

abbrev pub invariant-loop-y : goal.invariant-loop-y
invariant-loop-y g l = AreLowered l.ways l.from l.initial.rows l.rows l.y
