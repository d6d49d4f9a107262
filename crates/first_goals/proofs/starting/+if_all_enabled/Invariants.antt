use Rattle.std.proofs.Common.{length}
use Rattle.first_goals.proofs.starting.+if_all_enabled.Given as goal

abbrev pub decreases-if_all_enabled : goal.decreases-if_all_enabled
decreases-if_all_enabled l = length l.ops.now
