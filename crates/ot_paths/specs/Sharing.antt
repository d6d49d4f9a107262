-- Goals that stand for one plan, and what is known of the goals that are kept by their results.
use Rattle.std.specs.Prelude.{◌≡◌}
use Rattle.fn_rules.specs.declared.function.ObName.{ObName}
use Rattle.fn_rules.specs.Functions.{Function}
use Rattle.ot_terms.specs.Belonging.{IsGoalOf}
use Rattle.ot_terms.specs.Cells.{CellTree, cell_tree}
use Rattle.ot_terms.specs.Goals.{GoalTree, Deliver, Same, goal_tree}
use Rattle.ot_terms.specs.Standing.{ask_goal}
use Rattle.ot_paths.specs.declared.kept.Behind.{Behind}
use Rattle.ot_paths.specs.declared.kept.Compared.{Compared}

-- the new goal stands for the plan of the old one, and is of the obligations that the old one is of
pub record StandsAlike (f : Function) (old new : GoalTree) : Type 0 where
  pub asked : ask_goal f new ≡ ask_goal f old
  pub belongs : (ob : ObName) → IsGoalOf f ob old → IsGoalOf f ob new

-- the goal that is kept stands for what is left where the result is delivered
abbrev pub IsKeptGoal : Function → Behind → Type 0
IsKeptGoal f known = StandsAlike f (Deliver known.op known.progress.now) (goal_tree known.goal.now)

-- the goal that is kept stands for the comparison of the left cell, as far as it was read, with the right one
abbrev pub IsKeptRead : Function → CellTree → Compared → Type 0
IsKeptRead f right known = StandsAlike f (Same (cell_tree known.left) right) (goal_tree known.goal.now)
