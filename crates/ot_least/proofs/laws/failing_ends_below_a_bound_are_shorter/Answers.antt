use Rattle.ot_questions.specs.Obligation.{plan_of}
use Rattle.ot_least.proofs.Shorter.{leads_behind, shorter}
use Rattle.ot_least.proofs.laws.failing_ends_below_a_bound_are_shorter.Goals as goal

pub returns-clause-leads : goal.returns-clause-leads
returns-clause-leads c = leads_behind

pub returns-clause-shorter : goal.returns-clause-shorter
returns-clause-shorter c f ob why l rest bound values valid =
    shorter why f ob
    (λ w lead. c.plans_compare_like_with_like.ensures.answers why (plan_of f ob) w
    (c.plans_compare_like_with_like.ensures.plans f ob valid) lead)
    (λ w v lead zero met. c.plans_compare_like_with_like.ensures.positions f ob why w v valid lead zero met)
    (c.answers_have_least_values.ensures.lowest ob) l rest bound values
