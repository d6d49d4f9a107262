use Rattle.std.proofs.Common.{length}
use Rattle.ot_reverse.proofs.reversing.+reverses_pairs.Given as goal

abbrev pub decreases-reverses_pairs : goal.decreases-reverses_pairs
decreases-reverses_pairs l = length l.pairs.now
