use Rattle.std.proofs.Common.{length}
use Rattle.ot_mend.proofs.rank.«+weight».Given as goal

abbrev pub decreases-weight : goal.decreases-weight
decreases-weight l = length l.edits.now
