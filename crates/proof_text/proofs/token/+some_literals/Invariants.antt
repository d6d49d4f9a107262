use Rattle.std.proofs.Common.{◌-◌, length}
use Rattle.proof_trees.specs.declared.limits.TheConstants.{MAX_LITERALS}
use Rattle.proof_text.proofs.token.+some_literals.Given as goal

abbrev pub decreases-some_literals : goal.decreases-some_literals
decreases-some_literals l = MAX_LITERALS - length l.literals.now
