use Rattle.std.proofs.Common.{length}
use Rattle.ot_mend.proofs.offer.«+push_exchanged».Given as goal

abbrev pub decreases-push_exchanged : goal.decreases-push_exchanged
decreases-push_exchanged l = length l.cases.now
