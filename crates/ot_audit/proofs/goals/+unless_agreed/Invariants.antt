use Rattle.std.proofs.Common.{length}
use Rattle.ot_audit.proofs.goals.+unless_agreed.Given as goal

abbrev pub decreases-unless_agreed : goal.decreases-unless_agreed
decreases-unless_agreed l = length l.cases.now
