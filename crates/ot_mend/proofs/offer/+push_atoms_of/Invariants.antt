use Rattle.std.proofs.Common.{length}
use Rattle.ot_mend.proofs.offer.«+push_atoms_of».Given as goal

abbrev pub decreases-push_atoms_of : goal.decreases-push_atoms_of
decreases-push_atoms_of l = length l.atoms.now
