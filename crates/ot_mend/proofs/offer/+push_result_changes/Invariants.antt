use Rattle.std.proofs.Common.{length}
use Rattle.ot_mend.proofs.offer.«+push_result_changes».Given as goal

abbrev pub decreases-push_result_changes : goal.decreases-push_result_changes
decreases-push_result_changes l = length l.cases.now
