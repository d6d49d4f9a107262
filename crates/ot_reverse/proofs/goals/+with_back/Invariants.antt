use Rattle.std.proofs.Common.{length}
use Rattle.ot_reverse.proofs.goals.+with_back.Given as goal

abbrev pub decreases-with_back : goal.decreases-with_back
decreases-with_back l = length l.cases.now
