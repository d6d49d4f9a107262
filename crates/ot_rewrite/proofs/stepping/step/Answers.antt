use Rattle.std.proofs.lemmas.Result.{IfOk-weaker}
use Rattle.fn_rules.specs.Rules.{function_of}
use Rattle.ot_terms.specs.Goals.{goal_tree}
use Rattle.ot_rewrite.proofs.Stepped.{step_kept, step_stops}
use Rattle.ot_rewrite.proofs.stepping.step.Goals as goal

pub returns-clause-rule : goal.returns-clause-rule
returns-clause-rule c = c.stepped.ensures

pub returns-clause-kept : goal.returns-clause-kept
returns-clause-kept c =
    IfOk-weaker c.stepped.result _ _
    (step_kept (function_of c.args.rules.now) c.requires.0 c.rules_are_valid.ensures
    (goal_tree c.args.goal.now) c.requires.1
    (λ g. goal_tree g.now)) c.stepped.ensures

pub returns-clause-stops : goal.returns-clause-stops
returns-clause-stops c =
    IfOk-weaker c.stepped.result _ _
    (step_stops (function_of c.args.rules.now) c.requires.0 c.rules_are_valid.ensures
    (goal_tree c.args.goal.now) c.requires.1
    (λ g. goal_tree g.now)) c.stepped.ensures
