-- How much a term weighs. Rewriting a term makes it lighter.
use Rattle.std.specs.Prelude.{ℕ, ◌+◌, ◌*◌, ◌-◌, max, List, [], ◌∷◌, map, drop, Option, Some, None}
use Rattle.std.specs.List.{sum}
use Rattle.ot_model.specs.declared.op.Kind.{Kind}
use Rattle.ot_model.specs.Kinds.{kind_pairs}
use Rattle.fn_rules.specs.declared.guard.Cmp.{Cmp}
use Rattle.fn_rules.specs.declared.guard.Cmp.TheVariants as cmp
use Rattle.fn_rules.specs.declared.function.ObName.{ObName}
use Rattle.fn_rules.specs.declared.function.ObName.TheVariants.{Pair, Triple}
use Rattle.fn_rules.specs.Formulas as guards
use Rattle.fn_rules.specs.Formulas.{Formula}
use Rattle.fn_rules.specs.Functions.{Function, GuardedCase}
use Rattle.ot_questions.specs.Places.{sym_kind}
use Rattle.ot_terms.specs.declared.goal.GoalProgress.{GoalProgress}
use Rattle.ot_terms.specs.Forms as forms
use Rattle.ot_terms.specs.Forms.{FormTree}
use Rattle.ot_terms.specs.Documents as documents
use Rattle.ot_terms.specs.Documents.{DocTree}
use Rattle.ot_terms.specs.Cells as cells
use Rattle.ot_terms.specs.Cells.{CellTree}
use Rattle.ot_terms.specs.Goals as goals
use Rattle.ot_terms.specs.Goals.{GoalTree}

abbrev pub form_weight : FormTree → ℕ
form_weight forms.True = 1
form_weight (forms.Le x y) = 1
form_weight (forms.Lt x y) = 2
form_weight (forms.Eq x y) = 3
form_weight (forms.And g h) = 1 + form_weight g + form_weight h
form_weight (forms.Or g h) = 1 + form_weight g + form_weight h
form_weight (forms.Not g) = 1 + form_weight g

abbrev pub compared_weight : Cmp → ℕ
compared_weight cmp.Lt = 2
compared_weight cmp.Le = 1
compared_weight cmp.Eq = 3

-- the weight of the form that a guard is at two operations
abbrev pub guard_weight : Formula → ℕ
guard_weight guards.Always = 1
guard_weight (guards.Compare atom) = compared_weight atom.cmp
guard_weight (guards.And g h) = 1 + guard_weight g + guard_weight h
guard_weight (guards.Or g h) = 1 + guard_weight g + guard_weight h
guard_weight (guards.Not g) = 1 + guard_weight g

abbrev pub cases_weight : List GuardedCase → ℕ
cases_weight [] = 0
cases_weight (c ∷ cs) = 1 + guard_weight c.guard + cases_weight cs

-- the cases of all pairs of kinds together
abbrev pub function_weight : Function → ℕ
function_weight f = sum (map (λ pair. cases_weight (f.cases pair.0 pair.1)) kind_pairs)

abbrev pub doc_weight : DocTree → ℕ
doc_weight documents.Base = 1
doc_weight (documents.Put d at ch) = 8 + doc_weight d
doc_weight (documents.Cut d at) = 4 + doc_weight d
doc_weight (documents.Mark d at) = 9 + 2 * doc_weight d
doc_weight (documents.Over d at ch) = 9 + 2 * doc_weight d

abbrev pub cell_weight : CellTree → ℕ
cell_weight (cells.At d at) = doc_weight d
cell_weight (cells.Char ch) = 1
cell_weight (cells.Dead cell) = 1 + 2 * cell_weight cell
cell_weight (cells.Over ch cell) = 1 + 2 * cell_weight cell
cell_weight (cells.If g on_yes on_no) = 1 + form_weight g + max (cell_weight on_yes) (cell_weight on_no)

-- how many transformations an obligation has
abbrev pub transforms_of : ObName → ℕ
transforms_of (Pair k l) = 2
transforms_of (Triple k l m) = 6

-- more than what comes after the last result can weigh
abbrev pub end_weight : ℕ
end_weight = 200

-- what is left to be transformed once there is one more result, and then the end
abbrev pub rest_weight : Function → GoalProgress → ℕ
rest_weight f progress = (transforms_of progress.ob - (1 + progress.count)) * (3 + function_weight f) + end_weight

abbrev pub cases_of_kinds : Function → Option Kind → Option Kind → List GuardedCase
cases_of_kinds f None l = []
cases_of_kinds f (Some k) None = []
cases_of_kinds f (Some k) (Some l) = f.cases k l

abbrev pub goal_weight : Function → GoalTree → ℕ
goal_weight f goals.Holds = 1
goal_weight f (goals.Fails why) = 1
goal_weight f (goals.If g on_yes on_no) = form_weight g + max (goal_weight f on_yes) (goal_weight f on_no)
goal_weight f (goals.Choose case a b progress) =
    2 + cases_weight (drop case (cases_of_kinds f (sym_kind a) (sym_kind b))) + rest_weight f progress
goal_weight f (goals.Deliver o progress) = 1 + rest_weight f progress
goal_weight f (goals.Same left right) = 1 + 2 * (cell_weight left + cell_weight right)
