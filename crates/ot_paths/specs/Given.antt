-- Goals that are given to an asker.
use Rattle.std.specs.Prelude.{Option, Some, None}
use Rattle.std.proofs.Props.{props}
use denote.Ref.{Bor}
use Rattle.fn_rules.specs.declared.function.ObName.{ObName}
use Rattle.fn_rules.specs.Functions.{Function}
use Rattle.ask_core.specs.Plans.{Plan}
use Rattle.ot_questions.specs.declared.why.Why.{Why}
use Rattle.ot_questions.specs.Obligation.{plan_of}
use Rattle.ot_terms.specs.declared.goal.Goal.{Goal}
use Rattle.ot_terms.specs.Goals.{goal_tree}
use Rattle.ot_terms.specs.Standing.{ask_goal}
use Rattle.ot_paths.specs.Nodes.{IsNode}
use Rattle.ot_paths.specs.OneProof.{IsNode-prop}

-- a goal that is given is a node
abbrev pub IsGiven : Function → ObName → Option (Bor Goal) → Type 0
IsGiven f ob None = Unit {0}
IsGiven f ob (Some goal) = IsNode f ob (goal_tree goal.now)

-- that a goal is given so is a proposition
pub IsGiven-prop : (f : Function) (ob : ObName) (goal : Option (Bor Goal)) → IsProp (IsGiven f ob goal)
IsGiven-prop f ob None = hlevel props
IsGiven-prop f ob (Some goal) = IsNode-prop f ob (goal_tree goal.now)

-- the plan of the goal that is given, or else of the obligation
abbrev pub own_plan : Function → ObName → Option (Bor Goal) → Plan Why
own_plan f ob None = plan_of f ob
own_plan f ob (Some goal) = ask_goal f (goal_tree goal.now)
