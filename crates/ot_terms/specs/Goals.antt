-- Goals as plain trees.
use Rattle.std.specs.Prelude.{ℕ}
use Rattle.ot_questions.specs.declared.place.Place.{Place}
use Rattle.ot_questions.specs.declared.place.SymOp.{SymOp}
use Rattle.ot_questions.specs.declared.why.Why.{Why}
use Rattle.ot_questions.specs.Places.{by_order}
use Rattle.ot_terms.specs.declared.goal.GoalProgress.{GoalProgress}
use Rattle.ot_terms.specs.declared.goal.Goal.{Goal}
use Rattle.ot_terms.specs.declared.goal.Goal.TheVariants as rust
use Rattle.ot_terms.specs.declared.goal.Order.{Order}
use Rattle.ot_terms.specs.Forms.{FormTree, Le, form_tree, by_form}
use Rattle.ot_terms.specs.Cells.{CellTree, cell_tree}

-- a goal as a plain tree
pub data GoalTree : Type 0 where
  Holds : GoalTree
  Fails : Why → GoalTree
  If : FormTree → GoalTree → GoalTree → GoalTree
  Choose : ℕ → SymOp → SymOp → GoalProgress → GoalTree
  Deliver : SymOp → GoalProgress → GoalTree
  Same : CellTree → CellTree → GoalTree

-- what is asked of two places
abbrev pub asked_form : Order → FormTree
asked_form o = Le (record { var = o.x; off = o.x_off }) (record { var = o.y; off = o.y_off })

-- the plain tree that a goal stands for
abbrev pub goal_tree : Goal → GoalTree
goal_tree rust.Holds = Holds
goal_tree (rust.Fails why) = Fails why
goal_tree (rust.Ask' o p on_yes q on_no) = If (asked_form o) (goal_tree on_yes) (goal_tree on_no)
goal_tree (rust.If' g p on_yes q on_no) = If (form_tree g.now) (goal_tree on_yes) (goal_tree on_no)
goal_tree (rust.Choose case o progress) = Choose case o.now.a o.now.b progress.now
goal_tree (rust.Deliver o progress) = Deliver o progress.now
goal_tree (rust.Same left right) = Same (cell_tree left.now) (cell_tree right.now)

-- a goal that asks for the order of two places
abbrev pub order_goal : Place → Place → GoalTree → GoalTree → GoalTree
order_goal x y on_yes on_no = If (Le x y) on_yes on_no

-- one of two goals, where the first place is at most the second
abbrev pub laid_order : Place → Place → GoalTree → GoalTree → GoalTree
laid_order x y on_yes on_no = by_order order_goal x y on_yes on_no

-- one of two goals by a form, whose questions share the two
abbrev pub laid_form : FormTree → GoalTree → GoalTree → GoalTree
laid_form g on_yes on_no = by_form order_goal g on_yes on_no

-- a goal whose forms are laid out, as far as to what is none
abbrev pub laid : GoalTree → GoalTree
laid Holds = Holds
laid (Fails why) = Fails why
laid (If g on_yes on_no) = laid_form g (laid on_yes) (laid on_no)
laid (Choose case a b progress) = Choose case a b progress
laid (Deliver o progress) = Deliver o progress
laid (Same left right) = Same left right
