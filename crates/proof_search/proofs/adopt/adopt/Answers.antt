use Rattle.proof_search.proofs.Owning.{places_same}
use Rattle.proof_search.proofs.adopt.adopt.Goals as goal

pub returns-in_err-found-clause-same : goal.returns-in_err-found-clause-same
returns-in_err-found-clause-same g c = c.serving.ensures.same

pub returns-in_default-clause-places : goal.returns-in_default-clause-places
returns-in_default-clause-places g c = places_same c.args.search.now

pub returns-in_default-clause-same : goal.returns-in_default-clause-same
returns-in_default-clause-same g c = c.serving.ensures.same

pub returns-in_err-take_wanted-clause-same : goal.returns-in_err-take_wanted-clause-same
returns-in_err-take_wanted-clause-same g c = c.serving.ensures.same

pub returns-clause-places : goal.returns-clause-places
returns-clause-places g c = c.in_ok-take_wanted.ensures

pub returns-clause-same : goal.returns-clause-same
returns-clause-same g c = c.serving.ensures.same
