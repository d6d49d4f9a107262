-- An asker that is given a goal begins with it.
use Rattle.std.proofs.Common.{◌≡◌, Option, Some, Bor, sym, ap, subst}
use Rattle.fn_rules.specs.declared.function.ObName.{ObName}
use Rattle.fn_rules.specs.Functions.{Function}
use Rattle.ot_terms.specs.declared.goal.Goal.{Goal}
use Rattle.ot_terms.specs.Goals.{goal_tree}
use Rattle.ot_terms.specs.Standing.{ask_goal}
use Rattle.ot_paths.specs.Given.{IsGiven, own_plan}
use Rattle.ot_paths.specs.Nodes.{IsNode}

pub given_begins :
    (f : Function) (ob : ObName) (given : Option (Bor Goal)) (goal : Bor Goal) → given ≡ Some goal → IsGiven f ob given
    → IsNode f ob (goal_tree goal.now) × (ask_goal f (goal_tree goal.now) ≡ own_plan f ob given)
given_begins f ob given goal is has = (subst (IsGiven f ob) is has, sym (ap (own_plan f ob) is))
