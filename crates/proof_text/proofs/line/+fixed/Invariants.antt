use Rattle.std.proofs.Common.{length}
use Rattle.proof_text.proofs.line.+fixed.Given as goal

abbrev pub decreases-fixed : goal.decreases-fixed
decreases-fixed l = length l.text.now
