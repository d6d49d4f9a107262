use Rattle.std.proofs.Common.{length}
use Rattle.ot_mend.proofs.offer.«+push_results».Given as goal

abbrev pub decreases-push_results : goal.decreases-push_results
decreases-push_results l = length l.results.now
