-- Goals at which a transformation begins, and what is kept of the starts of a goal that is rewritten.
use Rattle.std.specs.Prelude.{◌≡◌, zero, suc, ◌+◌, Bool, true, false, ◌||◌, if◌then◌else◌, nat_lt, Option, Some, None}
use Rattle.fn_rules.specs.declared.function.ObName.{ObName}
use Rattle.fn_rules.specs.Functions.{Function}
use Rattle.ot_terms.specs.Belonging.{IsGoalOf}
use Rattle.ot_terms.specs.Goals.{GoalTree, Holds, Fails, If, Choose, Deliver, Same}
use Rattle.ot_terms.specs.Weights.{transforms_of}
use Rattle.ot_rewrite.specs.Fronts.{is_at_front}
use Rattle.start_laws.specs.Begun.{start_after}
use Rattle.start_laws.specs.Starts.{Start}
use Rattle.start_laws.specs.Marking.{marked_goal, with_start}

-- a transformation begins at the front of the goal: its first case is next, or a result is delivered after which
-- another one follows
abbrev pub is_begun : GoalTree → Bool
is_begun Holds = false
is_begun (Fails why) = false
is_begun (If g on_yes on_no) = false
is_begun (Choose zero a b progress) = true
is_begun (Choose (suc case) a b progress) = false
is_begun (Deliver o progress) = nat_lt (1 + progress.count) (transforms_of progress.ob)
is_begun (Same left right) = false

-- the start that is at the front of the goal, if a transformation begins there
abbrev pub front_start : GoalTree → Option Start
front_start Holds = None
front_start (Fails why) = None
front_start (If g on_yes on_no) = None
front_start (Choose zero a b progress) = Some (start_after progress None)
front_start (Choose (suc case) a b progress) = None
front_start (Deliver o progress) =
    if nat_lt (1 + progress.count) (transforms_of progress.ob) then Some (start_after progress (Some o)) else None
front_start (Same left right) = None

-- at the front of the goal a transformation begins, or a question or an end stands
abbrev pub is_settled : GoalTree → Bool
is_settled g = is_begun g || is_at_front g

-- the new goal stands for the plan of the old one with the same starts, and is of the obligations of the old one
pub record StandsMarked (f : Function) (old new : GoalTree) : Type 0 where
  pub marked : marked_goal f new ≡ marked_goal f old
  pub belongs : (ob : ObName) → IsGoalOf f ob old → IsGoalOf f ob new

-- the same but for the start at the front
pub record OpensStart (f : Function) (old new : GoalTree) : Type 0 where
  pub marked : with_start None (marked_goal f new) ≡ with_start None (marked_goal f old)
  pub belongs : (ob : ObName) → IsGoalOf f ob old → IsGoalOf f ob new
