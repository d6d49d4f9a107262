use Rattle.proof_check.proofs.laws.completed_plans_hold.Goals as goal

pub returns : goal.returns
returns g c compare meaning tokens p lawful marked (t, rest, shows, same, done) =
    c.shown_plans_hold.ensures.whole compare meaning t p lawful marked shows
