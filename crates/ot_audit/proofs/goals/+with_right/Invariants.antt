use Rattle.std.proofs.Common.{length}
use Rattle.ot_audit.proofs.goals.+with_right.Given as goal

abbrev pub decreases-with_right : goal.decreases-with_right
decreases-with_right l = length l.cases.now
