use Rattle.std.proofs.Common.{length}
use Rattle.fn_rules.proofs.obligation.+push_all_triples.Given as goal

abbrev pub decreases-push_all_triples : goal.decreases-push_all_triples
decreases-push_all_triples l = length l.kinds.now
