use Rattle.std.proofs.Common.{length}
use Rattle.ot_mend.proofs.editing.«+push_reversed».Given as goal

abbrev pub decreases-push_reversed : goal.decreases-push_reversed
decreases-push_reversed l = length l.cases.now
