use Rattle.std.proofs.Common.{length}
use Rattle.ot_settle.proofs.searching.+search_all.Given as goal

abbrev pub decreases-search_all : goal.decreases-search_all
decreases-search_all l = length l.names.now
