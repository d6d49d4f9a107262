-- Goals that are held at their front, and what a rule needs of one.
use Rattle.std.specs.Prelude.{ℕ, ◌<◌, ◌≤◌, Bool, true, false, length, Option, Some, None}
use Rattle.fn_rules.specs.Formulas.{formula_of}
use Rattle.fn_rules.specs.Functions.{Function}
use Rattle.ot_questions.specs.declared.place.SymOp.{SymOp}
use Rattle.ot_questions.specs.declared.why.Why.TheVariants.{Undefined}
use Rattle.ot_questions.specs.Nears.{IsNear, IsNearOp, IsDeclaredOp}
use Rattle.ot_questions.specs.Places.{sym_kind}
use Rattle.ot_terms.specs.Forms as forms
use Rattle.ot_terms.specs.Forms.{FormTree, form_tree}
use Rattle.ot_terms.specs.Cells.{cell_tree}
use Rattle.ot_terms.specs.Goals as goals
use Rattle.ot_terms.specs.Goals.{GoalTree, goal_tree}
use Rattle.ot_terms.specs.Placing.{guard_form}
use Rattle.ot_terms.specs.Weights.{cases_of_kinds}
use Rattle.cell_rules.specs.Cells.{IsReadable}
use Rattle.ot_rewrite.specs.declared.choosing.Trial.{Trial}
use Rattle.ot_rewrite.specs.declared.front.Front.{Front}
use Rattle.ot_rewrite.specs.declared.front.Front.TheVariants as rust

-- the goal that a front stands for
abbrev pub front_tree : Front → GoalTree
front_tree rust.Holds = goals.Holds
front_tree (rust.Fails why) = goals.Fails why
front_tree (rust.If g on_yes on_no) = goals.If (form_tree g) (goal_tree on_yes.now) (goal_tree on_no.now)
front_tree (rust.Choose case o progress) = goals.Choose case o.now.a o.now.b progress.now
front_tree (rust.Deliver o progress) = goals.Deliver o progress.now
front_tree (rust.Same left right) = goals.Same (cell_tree left) (cell_tree right)

-- the goal that a case which is tried at two operations stands for; it fails where none is left
abbrev pub trial_tree : SymOp → SymOp → Option Trial → GoalTree
trial_tree a b None = goals.Fails Undefined
trial_tree a b (Some t) = goals.If (guard_form (formula_of t.guard.now) a b) (goal_tree t.yes) (goal_tree t.no)

-- whether a goal is one of two by a form, as where a case is tried
abbrev pub is_tried : GoalTree → Bool
is_tried goals.Holds = false
is_tried (goals.Fails why) = false
is_tried (goals.If g on_yes on_no) = true
is_tried (goals.Choose case a b progress) = false
is_tried (goals.Deliver o progress) = false
is_tried (goals.Same left right) = false

-- the offset that is lowered by one is small
abbrev pub IsLoweredForm : FormTree → Type 0
IsLoweredForm forms.True = Unit {0}
IsLoweredForm (forms.Le x y) = Unit {0}
IsLoweredForm (forms.Lt x y) = IsNear 999 y.off
IsLoweredForm (forms.Eq x y) = Unit {0}
IsLoweredForm (forms.And g h) = Unit {0}
IsLoweredForm (forms.Or g h) = Unit {0}
IsLoweredForm (forms.Not g) = Unit {0}

-- one of the cases for the two operations is next, or none is left
pub record IsChoosable (f : Function) (case : ℕ) (a b : SymOp) : Type 0 where
  pub a_declared : IsDeclaredOp f.head a
  pub b_declared : IsDeclaredOp f.head b
  pub a_near : IsNearOp 99 a
  pub b_near : IsNearOp 99 b
  pub cases : case ≤ length (cases_of_kinds f (sym_kind a) (sym_kind b))

-- what a rule needs of the goal that it rewrites
abbrev pub IsReadyGoal : Function → GoalTree → Type 0
IsReadyGoal f goals.Holds = Unit {0}
IsReadyGoal f (goals.Fails why) = Unit {0}
IsReadyGoal f (goals.If g on_yes on_no) = IsLoweredForm g
IsReadyGoal f (goals.Choose case a b progress) = IsChoosable f case a b
IsReadyGoal f (goals.Deliver o progress) = progress.count < 6
IsReadyGoal f (goals.Same left right) = IsReadable left × IsReadable right
