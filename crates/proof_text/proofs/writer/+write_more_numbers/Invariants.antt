use Rattle.std.proofs.Common.{length}
use Rattle.proof_text.proofs.writer.+write_more_numbers.Given as goal

abbrev pub decreases-write_more_numbers : goal.decreases-write_more_numbers
decreases-write_more_numbers l = length l.numbers.now
