use Rattle.std.proofs.Common.{◌≡◌}
use Rattle.ot_values.specs.Values.{live_cells}
use Rattle.ot_values.proofs.instance.live_document.Given as goal

abbrev pub invariant-loop-place : goal.invariant-loop-place
invariant-loop-place l = l.doc ≡ live_cells l._place
