use Rattle.proof_search.proofs.Owning.{places_kept}
use Rattle.proof_search.proofs.blame.blame.Goals as goal

pub returns-in-Unreachable : goal.returns-in-Unreachable
returns-in-Unreachable g c =
    let kept = places_kept c.mend_from.ensures.places c.drop_from.ensures in
    record { at = kept.at; levels = kept.levels; waiting = kept.waiting; lemmas = kept.lemmas; asked = kept.asked }
