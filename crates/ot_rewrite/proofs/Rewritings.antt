-- What a rule keeps.
use Rattle.std.specs.Prelude.{◌≡◌, ◌<◌}
use Rattle.fn_rules.specs.declared.function.ObName.{ObName}
use Rattle.fn_rules.specs.Functions.{Function}
use Rattle.ot_terms.specs.Goals.{GoalTree}
use Rattle.ot_terms.specs.Standing.{ask_goal}
use Rattle.ot_terms.specs.Weights.{goal_weight}
use Rattle.ot_terms.specs.Belonging.{HasParts}

-- the new goal asks what the old one asks, has parts of the obligation where the old one has, and weighs less
pub record IsRewriting (f : Function) (ob : ObName) (old new : GoalTree) : Type 0 where
  pub asked : ask_goal f new ≡ ask_goal f old
  pub parts : HasParts f ob old → HasParts f ob new
  pub lighter : goal_weight f new < goal_weight f old
