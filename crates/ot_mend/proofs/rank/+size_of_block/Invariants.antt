use Rattle.std.proofs.Common.{length}
use Rattle.ot_mend.proofs.rank.«+size_of_block».Given as goal

abbrev pub decreases-size_of_block : goal.decreases-size_of_block
decreases-size_of_block l = length l.cases.now
