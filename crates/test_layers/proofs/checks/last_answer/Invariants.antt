use Rattle.std.proofs.Common.{◌<◌, length}
use Rattle.test_layers.proofs.checks.last_answer.Given as goal

abbrev pub invariant-loop-mark : goal.invariant-loop-mark
invariant-loop-mark l = 0 < length l.checker.places
