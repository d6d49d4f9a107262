use Rattle.ot_terms.proofs.GoalTruth.{goal_holds_ends, goal_holds_value, goal_holds_alike}
use Rattle.ot_terms.proofs.laws.goals_are_true_as_their_plans.Goals as goal

pub returns-clause-end : goal.returns-clause-end
returns-clause-end c = goal_holds_ends

pub returns-clause-value : goal.returns-clause-value
returns-clause-value c = goal_holds_value

pub returns-clause-alike : goal.returns-clause-alike
returns-clause-alike c = goal_holds_alike
