use Rattle.std.proofs.Common.{length}
use Rattle.proof_text.proofs.number.+digits.Given as goal

abbrev pub decreases-digits : goal.decreases-digits
decreases-digits l = length l.bytes.now
