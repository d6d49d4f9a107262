use Rattle.proof_text.proofs.ExactLemmas.{finds_exactly}
use Rattle.proof_text.proofs.TokenLemmas.{tokens_spelled}
use Rattle.proof_text.proofs.laws.tokens_are_found_exactly.Goals as goal

pub returns : goal.returns
returns c = finds_exactly tokens_spelled
