use Rattle.diff_tables.specs.Steps.{AreLowered}
use Rattle.diff_tables.proofs.rows.lower_rows.Given as goal

abbrev pub invariant-loop-y : goal.invariant-loop-y
invariant-loop-y l = AreLowered l.ways l.from l.initial.rows l.rows l.y
