use Rattle.std.proofs.Common.{length}
use Rattle.ot_mend.proofs.offer.«+push_put_in».Given as goal

abbrev pub decreases-push_put_in : goal.decreases-push_put_in
decreases-push_put_in l = length l.cases.now
