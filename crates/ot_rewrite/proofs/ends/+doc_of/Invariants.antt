use Rattle.std.proofs.Common.{length}
use Rattle.ot_rewrite.proofs.ends.+doc_of.Given as goal

abbrev pub decreases-doc_of : goal.decreases-doc_of
decreases-doc_of l = length l.ops.now
