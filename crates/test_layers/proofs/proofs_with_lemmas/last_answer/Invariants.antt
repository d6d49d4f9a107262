use Rattle.std.proofs.Common.{◌<◌, length}
use Rattle.test_layers.proofs.proofs_with_lemmas.last_answer.Given as goal

abbrev pub invariant-loop-mark : goal.invariant-loop-mark
invariant-loop-mark l = 0 < length l.judge.places.wanted
