use Rattle.ot_decide.proofs.Bounded.{below_fine}
use Rattle.ot_decide.proofs.below.shorter_plans_keep_limits.Goals as goal

pub returns : goal.returns
returns c f below ob valid bounded =
    below_fine f below ob (c.plans_keep_limits.ensures.fine f ob valid)
    (c.plans_keep_limits.ensures.short f ob valid) bounded
