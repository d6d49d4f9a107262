use Rattle.std.proofs.Common.{length}
use Rattle.ot_mend.proofs.offer.«+push_other_atoms».Given as goal

abbrev pub decreases-push_other_atoms : goal.decreases-push_other_atoms
decreases-push_other_atoms l = length l.others.now
