use Rattle.std.proofs.Common.{length}
use Rattle.ot_mend.proofs.offer.«+push_taken_out».Given as goal

abbrev pub decreases-push_taken_out : goal.decreases-push_taken_out
decreases-push_taken_out l = length l.cases.now
