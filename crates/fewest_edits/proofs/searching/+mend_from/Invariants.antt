use Rattle.std.proofs.Common.{◌-◌}
use Rattle.fewest_edits.proofs.searching.«+mend_from».Given as goal

abbrev pub decreases-mend_from : goal.decreases-mend_from
decreases-mend_from g l = l.most - l.count
