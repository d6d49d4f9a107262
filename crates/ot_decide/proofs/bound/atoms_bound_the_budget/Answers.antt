use Rattle.std.proofs.Common.{[], length}
use Rattle.fn_rules.specs.Obligations.{obligations_of}
use Rattle.ot_questions.specs.Obligation.{plan_of}
use Rattle.ot_decide.proofs.Bounds.{count_all, at_most}
use Rattle.ot_decide.proofs.bound.atoms_bound_the_budget.Goals as goal

pub returns : goal.returns
returns c f level lists valid asked =
    at_most _ (length (obligations_of f.head level)) _
    (count_all (plan_of f) _ (λ ob q listed. c.atoms_bound_questions.ensures.lists f ob [] q valid listed)
    (obligations_of f.head level) lists asked) (c.levels_have_few_obligations.ensures f.head level)
