-- The nodes of an asker with starts, and what it says of its starts.
use Rattle.std.specs.Prelude.{IsTrue}
use denote.Ref.{Bor}
use Rattle.fn_rules.specs.declared.function.ObName.{ObName}
use Rattle.fn_rules.specs.Functions.{Function}
use Rattle.proof_trees.specs.Starters.{Starts}
use Rattle.ot_questions.specs.declared.why.Why.{Why}
use Rattle.ot_terms.specs.declared.goal.Goal.{Goal}
use Rattle.ot_terms.specs.Goals.{GoalTree, goal_tree}
use Rattle.ot_paths.specs.Nodes.{IsNode}
use Rattle.start_laws.specs.Starts.{Start, compare_starts, meaning}
use Rattle.start_laws.specs.Marking.{marked_goal, marked_plan}
use Rattle.start_laws.specs.Settled.{is_settled}

-- the goal is of the function and the obligation, within the limits of plans; and at its front a question or an end
-- stands, or a transformation begins
pub record IsStop (f : Function) (ob : ObName) (g : GoalTree) : Type 0 where
  pub node : IsNode f ob g
  pub settled : IsTrue (is_settled g)

-- a node's plan is that of its goal, and the asker's own plan that of the obligation. How starts compare and what they
-- stand for are told by what was done alone
abbrev pub starts_of : Function → ObName → Starts (Bor Goal) Start Why
starts_of f ob = record {
  marked = λ n. marked_goal f (goal_tree n.now);
  root = marked_plan f ob;
  compare = compare_starts;
  meaning = meaning f;
}
