use Rattle.std.proofs.Common.{◌≡◌, take}
use Rattle.diff_tables.specs.Solutions.{floors_from}
use Rattle.diff_tables.proofs.floors.floor_literals.Given as goal

abbrev pub invariant-loop-x : goal.invariant-loop-x
invariant-loop-x l = l.bounds.items ≡ floors_from 0 (take l.x l.floors)
