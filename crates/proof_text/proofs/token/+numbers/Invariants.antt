use Rattle.std.proofs.Common.{◌-◌, length}
use Rattle.ask_core.specs.declared.picks.TheConstants.{MAX_PICKS}
use Rattle.proof_text.proofs.token.+numbers.Given as goal

abbrev pub decreases-numbers : goal.decreases-numbers
decreases-numbers l = MAX_PICKS - length l.picks.now
