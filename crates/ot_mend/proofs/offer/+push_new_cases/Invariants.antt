use Rattle.std.proofs.Common.{length}
use Rattle.ot_mend.proofs.offer.«+push_new_cases».Given as goal

abbrev pub decreases-push_new_cases : goal.decreases-push_new_cases
decreases-push_new_cases l = length l.guards.now
