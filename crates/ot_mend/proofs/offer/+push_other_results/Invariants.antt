use Rattle.std.proofs.Common.{length}
use Rattle.ot_mend.proofs.offer.«+push_other_results».Given as goal

abbrev pub decreases-push_other_results : goal.decreases-push_other_results
decreases-push_other_results l = length l.others.now
