use Rattle.std.proofs.Common.{length}
use Rattle.ot_reverse.proofs.goals.+unless_taken_back.Given as goal

abbrev pub decreases-unless_taken_back : goal.decreases-unless_taken_back
decreases-unless_taken_back l = length l.cases.now
