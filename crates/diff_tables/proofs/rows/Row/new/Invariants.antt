use Rattle.diff_tables.specs.Steps.{IsNewRow}
use Rattle.diff_tables.proofs.rows.Row.new.Given as goal

abbrev pub invariant-loop-x : goal.invariant-loop-x
invariant-loop-x l = IsNewRow l.x l.own l.cells.items
