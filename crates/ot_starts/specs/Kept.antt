-- What is kept of goals that were laid out where transformations begin.
use Rattle.fn_rules.specs.Functions.{Function}
use Rattle.ot_terms.specs.Goals.{goal_tree}
use Rattle.start_laws.specs.Settled.{OpensStart, StandsMarked}
use Rattle.ot_starts.specs.declared.kept.Kept.{Kept}

-- the goal that is kept stands for the plan of the goal where the transformation begins, but for the start at its front
abbrev pub IsKeptStart : Function → Kept → Type 0
IsKeptStart f kept = OpensStart f (goal_tree kept.at.now) (goal_tree kept.goal.now)

-- the goal that is kept stands for the plan of the goal at which the last result is delivered
abbrev pub IsKeptEnd : Function → Kept → Type 0
IsKeptEnd f kept = StandsMarked f (goal_tree kept.at.now) (goal_tree kept.goal.now)
