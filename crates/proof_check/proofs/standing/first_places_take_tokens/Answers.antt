use Rattle.proof_check.proofs.Standings.{after_first_tree, after_first_cycle}
use Rattle.proof_check.proofs.standing.first_places_take_tokens.Goals as goal

pub returns-clause-tree : goal.returns-clause-tree
returns-clause-tree g c compare marked p = after_first_tree marked compare p.known p.wanted

pub returns-clause-cycle : goal.returns-clause-cycle
returns-clause-cycle g c compare marked p = after_first_cycle marked compare p.known p.wanted
