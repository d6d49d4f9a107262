use Rattle.proof_search.proofs.Keeping.{KeepsStarts-trans}
use Rattle.proof_writer.proofs.Walking.{lemmas_kept}
use Rattle.proof_writer.proofs.writing.unbegun_at.Goals as goal

pub serving_of-requires-clause-lemmas : goal.serving_of-requires-clause-lemmas
serving_of-requires-clause-lemmas g c = lemmas_kept c.number.ensures.same c.args.lemmas.now c.requires.lemmas

pub serving_of-requires-clause-here : goal.serving_of-requires-clause-here
serving_of-requires-clause-here g c = (c.number.ensures.same.own c.args.here).0 c.requires.here

pub returns-in_err-found-clause-same : goal.returns-in_err-found-clause-same
returns-in_err-found-clause-same g c = KeepsStarts-trans c.number.ensures.same c.serving_of.ensures.same

pub returns-clause-same : goal.returns-clause-same
returns-clause-same g c = KeepsStarts-trans c.number.ensures.same c.serving_of.ensures.same
