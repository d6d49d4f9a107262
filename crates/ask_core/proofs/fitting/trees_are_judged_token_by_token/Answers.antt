use Rattle.ask_core.proofs.TokenByToken.{Completes-taken, Completes-begun}
use Rattle.ask_core.proofs.fitting.trees_are_judged_token_by_token.Goals as goal

pub returns : goal.returns
returns g c tok tokens branches = (Completes-taken tok tokens branches, Completes-begun tok tokens branches)
