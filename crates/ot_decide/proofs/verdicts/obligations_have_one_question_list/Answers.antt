use Rattle.ot_questions.specs.Names.{name_count}
use Rattle.ot_questions.specs.Obligation.{plan_below, plan_of}
use Rattle.std.proofs.Common.{None}
use Rattle.ot_decide.proofs.Lists.{one_lists, some_lists}
use Rattle.ot_decide.proofs.verdicts.obligations_have_one_question_list.Goals as goal

pub returns-clause-some : goal.returns-clause-some
returns-clause-some c f obs valid =
    some_lists (plan_of f)
    (λ ob. c.plans_have_one_question_list.ensures.some (name_count ob) (plan_of f ob)
    (c.shorter_plans_keep_limits.ensures f None ob valid tt)) obs

pub returns-clause-one : goal.returns-clause-one
returns-clause-one c f = one_lists (plan_of f) c.plans_have_one_question_list.ensures.one

pub returns-clause-some_below : goal.returns-clause-some_below
returns-clause-some_below c f below obs valid bounded =
    some_lists (plan_below f below)
    (λ ob. c.plans_have_one_question_list.ensures.some (name_count ob) (plan_below f below ob)
    (c.shorter_plans_keep_limits.ensures f below ob valid bounded)) obs

pub returns-clause-one_below : goal.returns-clause-one_below
returns-clause-one_below c f below = one_lists (plan_below f below) c.plans_have_one_question_list.ensures.one
