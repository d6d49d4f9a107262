use Rattle.diff_tables.specs.Steps.{AreNewRows}
use Rattle.diff_tables.proofs.rows.new_rows.Given as goal

abbrev pub invariant-loop-own : goal.invariant-loop-own
invariant-loop-own l = AreNewRows l.n l.own l.rows.items
