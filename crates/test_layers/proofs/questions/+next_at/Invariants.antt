use Rattle.std.proofs.Common.{length}
use Rattle.test_layers.proofs.questions.+next_at.Given as goal

abbrev pub decreases-next_at : goal.decreases-next_at
decreases-next_at l = length l.answers.now
