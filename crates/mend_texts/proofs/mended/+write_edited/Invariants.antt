use Rattle.std.proofs.Common.{length}
use Rattle.mend_texts.proofs.mended.«+write_edited».Given as goal

abbrev pub decreases-write_edited : goal.decreases-write_edited
decreases-write_edited l = length l.edits.now
