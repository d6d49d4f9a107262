use Rattle.ot_terms.proofs.GoalTruth.{goal_holds_alike}
use Rattle.ot_rewrite.proofs.FrontLaws.{goal_stops}
use Rattle.ot_rewrite.proofs.RulesKept.{rule_kept, rule_belongs}
use Rattle.ot_rewrite.proofs.laws.rules_keep_what_is_asked.Goals as goal

pub returns-clause-asked : goal.returns-clause-asked
returns-clause-asked c = λ f ob g h valid is_goal e. (rule_kept f ob g h valid is_goal e).asked

pub returns-clause-belongs : goal.returns-clause-belongs
returns-clause-belongs c = rule_belongs

pub returns-clause-lighter : goal.returns-clause-lighter
returns-clause-lighter c = λ f ob g h valid is_goal e. (rule_kept f ob g h valid is_goal e).lighter

pub returns-clause-stops : goal.returns-clause-stops
returns-clause-stops c = goal_stops

pub returns-clause-truth : goal.returns-clause-truth
returns-clause-truth c = λ f ob g h v valid is_goal e.
    goal_holds_alike f ob h g v (rule_belongs f ob g h valid is_goal e) is_goal
    (rule_kept f ob g h valid is_goal e).asked
