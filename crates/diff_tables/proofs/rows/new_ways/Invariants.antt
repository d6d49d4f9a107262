use Rattle.std.proofs.Common.{◌≡◌, length}
use Rattle.diff_tables.proofs.rows.new_ways.Given as goal

abbrev pub invariant-loop-x : goal.invariant-loop-x
invariant-loop-x l = length l.ways.items ≡ l._x
