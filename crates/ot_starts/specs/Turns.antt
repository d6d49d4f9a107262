-- How the plan of a goal begins, whatever start is at its front.
use Rattle.std.specs.Prelude.{◌≡◌, None}
use denote.Ref.{Bor}
use Rattle.fn_rules.specs.declared.function.ObName.{ObName}
use Rattle.fn_rules.specs.Functions.{Function}
use Rattle.ask_core.specs.declared.turn.Turn.{Turn}
use Rattle.proof_trees.specs.Starters.{BeginsAt}
use Rattle.ot_questions.specs.declared.why.Why.{Why}
use Rattle.ot_terms.specs.declared.goal.Goal.{Goal}
use Rattle.ot_terms.specs.Goals.{GoalTree, goal_tree}
use Rattle.ot_paths.specs.Nodes.{IsNode}
use Rattle.start_laws.specs.Marking.{Marked, marked_goal, with_start}
use Rattle.ot_starts.specs.Nodes.{IsStop}

-- where the goal is a node of an obligation, each plan that is its plan but for the start at the front begins as the
-- turn says, and the turn's nodes are those of the obligation
abbrev pub TurnsAs : Function → GoalTree → Turn (Bor Goal) Why → Type 0
TurnsAs f g t =
    (ob : ObName) (p : Marked) → IsNode f ob g → with_start None p ≡ with_start None (marked_goal f g)
    → BeginsAt (λ n. IsStop f ob (goal_tree n.now)) (λ n. marked_goal f (goal_tree n.now)) t p
