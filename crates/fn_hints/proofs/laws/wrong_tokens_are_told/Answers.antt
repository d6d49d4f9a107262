use Rattle.fn_hints.proofs.Wrong.{wrong_tokens_are_told}
use Rattle.fn_hints.proofs.laws.wrong_tokens_are_told.Goals as goal

pub returns : goal.returns
returns c = wrong_tokens_are_told
