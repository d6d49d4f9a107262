use Rattle.proof_search.proofs.Owning.{places_kept, places_same}
use Rattle.proof_search.proofs.adopt.take.Goals as goal

pub returns-then-implies : goal.returns-then-implies
returns-then-implies g c = places_same c.args.search.now

pub returns-in_default : goal.returns-in_default
returns-in_default g c = places_same c.args.search.now

pub returns-in-Some-2 : goal.returns-in-Some-2
returns-in-Some-2 g c = places_kept c.assume_within.ensures.places c.drop_from.ensures

pub returns : goal.returns
returns g c =
    let kept = c.assume_within.ensures.places in
    record { at = kept.at; levels = kept.levels; waiting = kept.waiting; lemmas = kept.lemmas; asked = kept.asked }
