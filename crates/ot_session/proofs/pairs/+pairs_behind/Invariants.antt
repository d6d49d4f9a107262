use Rattle.std.proofs.Common.{length}
use Rattle.ot_session.proofs.pairs.+pairs_behind.Given as goal

-- the list is shorter in each call of itself
abbrev pub decreases-pairs_behind : goal.decreases-pairs_behind
decreases-pairs_behind l = length l.list.now
