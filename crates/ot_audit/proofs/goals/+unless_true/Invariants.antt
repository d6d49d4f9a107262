use Rattle.std.proofs.Common.{length}
use Rattle.ot_audit.proofs.goals.+unless_true.Given as goal

abbrev pub decreases-unless_true : goal.decreases-unless_true
decreases-unless_true l = length l.cases.now
