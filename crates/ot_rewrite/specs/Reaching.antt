-- The goals that rules lead to.
use Rattle.std.specs.Prelude.{◌≡◌, ◌↔◌, ◌<◌, ℕ, zero, suc, ℤ, Option, Some}
use Rattle.fn_rules.specs.declared.function.ObName.{ObName}
use Rattle.std.specs.Option.{option_and_then}
use Rattle.fn_rules.specs.Functions.{Function}
use Rattle.ot_terms.specs.Goals.{GoalTree}
use Rattle.ot_terms.specs.Standing.{ask_goal}
use Rattle.ot_terms.specs.Truth.{goal_holds}
use Rattle.ot_terms.specs.Weights.{goal_weight}
use Rattle.ot_terms.specs.Belonging.{IsGoalOf}
use Rattle.ot_rewrite.specs.Table.{rewritten}

-- the goal after so many rules; none where fewer of them fit
abbrev pub after_rules : Function → ℕ → GoalTree → Option GoalTree
after_rules f zero g = Some g
after_rules f (suc n) g = option_and_then (after_rules f n) (rewritten f g)

-- rules lead from the old goal to the new one
pub record Reaches (f : Function) (old new : GoalTree) : Type 0 where
  pub rules : ℕ
  pub reached : after_rules f rules old ≡ Some new

-- what a rule keeps, and what falls: the new goal asks the same, is true at the same valuations, is of the same
-- function and obligation, and weighs less
pub record IsStep (f : Function) (old new : GoalTree) : Type 0 where
  pub asked : ask_goal f new ≡ ask_goal f old
  pub truth : (v : ℕ → ℤ) → goal_holds f v new ↔ goal_holds f v old
  pub belongs : (ob : ObName) → IsGoalOf f ob old → IsGoalOf f ob new
  pub lighter : goal_weight f new < goal_weight f old
