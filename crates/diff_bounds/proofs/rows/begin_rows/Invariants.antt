use Rattle.diff_bounds.proofs.RowSteps.{AreBegun}
use Rattle.diff_bounds.proofs.rows.begin_rows.Given as goal

abbrev pub invariant-loop-own : goal.invariant-loop-own
invariant-loop-own g l = AreBegun l.initial.rows l.rows l.own
