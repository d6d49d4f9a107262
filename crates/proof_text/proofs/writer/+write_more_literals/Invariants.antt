use Rattle.std.proofs.Common.{length}
use Rattle.proof_text.proofs.writer.+write_more_literals.Given as goal

abbrev pub decreases-write_more_literals : goal.decreases-write_more_literals
decreases-write_more_literals l = length l.literals.now
