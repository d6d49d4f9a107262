use Rattle.proof_search.proofs.Keeping.{KeepsStarts-trans}
use Rattle.proof_search.proofs.Owning.{lemmas_kept}
use Rattle.proof_search.proofs.service.serving.Goals as goal

pub serving_of-requires-clause-lemmas : goal.serving_of-requires-clause-lemmas
serving_of-requires-clause-lemmas g c = lemmas_kept c.number.ensures.same c.args.lemmas.now c.requires.lemmas

pub serving_of-requires-clause-here : goal.serving_of-requires-clause-here
serving_of-requires-clause-here g c = (c.number.ensures.same.own c.args.here).0 c.requires.here

pub number_alike-requires : goal.number_alike-requires
number_alike-requires g c =
    (c.serving_of.ensures.same.own c.args.here).0 ((c.number.ensures.same.own c.args.here).0 c.requires.here)

pub serving_of-requires-2-clause-lemmas : goal.serving_of-requires-2-clause-lemmas
serving_of-requires-2-clause-lemmas g c =
    lemmas_kept (KeepsStarts-trans (KeepsStarts-trans c.number.ensures.same c.serving_of.ensures.same)
    c.number_alike.ensures.same) c.args.lemmas.now c.requires.lemmas

pub serving_of-requires-2-clause-here : goal.serving_of-requires-2-clause-here
serving_of-requires-2-clause-here g c =
    ((KeepsStarts-trans (KeepsStarts-trans c.number.ensures.same c.serving_of.ensures.same)
    c.number_alike.ensures.same).own c.args.here).0 c.requires.here

-- every call keeps what the asker says of its starts
pub returns-in_err-number-clause-same : goal.returns-in_err-number-clause-same
returns-in_err-number-clause-same g c = c.number.ensures.same

pub returns-in_err-found-clause-same : goal.returns-in_err-found-clause-same
returns-in_err-found-clause-same g c = KeepsStarts-trans c.number.ensures.same c.serving_of.ensures.same

pub returns-in-Some-clause-same : goal.returns-in-Some-clause-same
returns-in-Some-clause-same g c = KeepsStarts-trans c.number.ensures.same c.serving_of.ensures.same

pub returns-in_err-alike-clause-same : goal.returns-in_err-alike-clause-same
returns-in_err-alike-clause-same g c =
    KeepsStarts-trans (KeepsStarts-trans c.number.ensures.same c.serving_of.ensures.same) c.number_alike.ensures.same

pub returns-then-alike-number-clause-same : goal.returns-then-alike-number-clause-same
returns-then-alike-number-clause-same g c =
    KeepsStarts-trans (KeepsStarts-trans c.number.ensures.same c.serving_of.ensures.same) c.number_alike.ensures.same

pub returns-clause-serves : goal.returns-clause-serves
returns-clause-serves g c = c.serving_of-2.ensures.serves

pub returns-clause-same : goal.returns-clause-same
returns-clause-same g c =
    KeepsStarts-trans (KeepsStarts-trans (KeepsStarts-trans c.number.ensures.same c.serving_of.ensures.same)
    c.number_alike.ensures.same) c.serving_of-2.ensures.same
