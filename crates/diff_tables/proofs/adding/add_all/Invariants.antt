use Rattle.std.proofs.Common.{length}
use Rattle.diff_tables.specs.Steps.{AreModest}
use Rattle.diff_tables.proofs.AddingSteps.{IsAdding}
use Rattle.diff_tables.proofs.adding.add_all.Given as goal

abbrev pub invariant-loop-place : goal.invariant-loop-place
invariant-loop-place l = IsAdding (length l.initial.rows) l.initial.rows l.rows l.lits l.place × AreModest l.rows
