use Rattle.fn_rules.specs.Rules.{function_of}
use Rattle.ot_terms.specs.Goals.{goal_tree}
use Rattle.ot_terms.specs.Weights.{goal_weight}
use Rattle.ot_starts.proofs.settling.+stopped.Given as goal

abbrev pub decreases-stopped : goal.decreases-stopped
decreases-stopped l = goal_weight (function_of l.rules.now) (goal_tree l.goal.now)
