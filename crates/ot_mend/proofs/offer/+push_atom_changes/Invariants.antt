use Rattle.std.proofs.Common.{length}
use Rattle.ot_mend.proofs.offer.«+push_atom_changes».Given as goal

abbrev pub decreases-push_atom_changes : goal.decreases-push_atom_changes
decreases-push_atom_changes l = length l.cases.now
