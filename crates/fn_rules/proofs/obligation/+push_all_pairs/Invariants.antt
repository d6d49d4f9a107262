use Rattle.std.proofs.Common.{length}
use Rattle.fn_rules.proofs.obligation.+push_all_pairs.Given as goal

abbrev pub decreases-push_all_pairs : goal.decreases-push_all_pairs
decreases-push_all_pairs l = length l.kinds.now
