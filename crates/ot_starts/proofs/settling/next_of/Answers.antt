use Rattle.fn_rules.specs.Rules.{function_of}
use Rattle.ot_terms.specs.Goals.{goal_tree}
use Rattle.ot_starts.proofs.SettledGoals.{not_begun, next_alike}
use Rattle.ot_starts.proofs.settling.next_of.Goals as goal

pub returns-in-Some-clause-alike : goal.returns-in-Some-clause-alike
returns-in-Some-clause-alike c =
    let f = function_of c.args.rules.now in
    next_alike f (goal_tree c.args.goal.now) (λ g. goal_tree g.now) c.in_ok-next.field-0 c.in-Some.next c.in-Some.is
    c.in_ok-next.ensures.rule c.in_ok-next.ensures.kept
    (λ h given. c.rules_keep_starts.ensures.kept f c.requires.goal.0 (goal_tree c.args.goal.now) h
    c.rules_are_valid.ensures c.requires.goal.1 given (not_begun (goal_tree c.args.goal.now) c.requires.open))
