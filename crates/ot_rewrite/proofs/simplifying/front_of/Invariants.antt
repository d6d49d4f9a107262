use Rattle.fn_rules.specs.Rules.{function_of}
use Rattle.ot_terms.specs.Goals.{goal_tree}
use Rattle.ot_terms.specs.Weights.{goal_weight}
use Rattle.ot_rewrite.specs.Reaching.{Reaches}
use Rattle.ot_rewrite.specs.Steps.{front_tree}
use Rattle.ot_rewrite.proofs.simplifying.front_of.Given as goal

abbrev pub invariant-loop-next : goal.invariant-loop-next
invariant-loop-next l = Reaches (function_of l.rules) (goal_tree l.fn.goal) (front_tree l.front)

abbrev pub decreases-loop-next : goal.decreases-loop-next
decreases-loop-next l = goal_weight (function_of l.rules) (front_tree l.front)
