use Rattle.proof_check.proofs.Standings.{question_taken, end_taken, cycle_taken, lemma_taken, citation_taken}
use Rattle.proof_check.proofs.standing.places_change_as_tokens_say.Goals as goal

pub returns-clause-question : goal.returns-clause-question
returns-clause-question g c compare marked p = question_taken marked compare p.known p.wanted

pub returns-clause-end : goal.returns-clause-end
returns-clause-end g c compare marked p = end_taken marked compare p.known p.wanted

pub returns-clause-cycle : goal.returns-clause-cycle
returns-clause-cycle g c compare marked p = cycle_taken marked compare p.known p.wanted

pub returns-clause-lemma : goal.returns-clause-lemma
returns-clause-lemma g c compare marked p = lemma_taken marked compare p.known p.wanted

pub returns-clause-citation : goal.returns-clause-citation
returns-clause-citation g c compare marked p = citation_taken marked compare p.known p.wanted
