-- The plan that a goal stands for, with a start at each place where a transformation begins.
use Rattle.std.specs.Prelude.{ℕ, zero, suc, ◌+◌, ◌-◌, ◌-ℤ◌, Option, Some, None}
use Rattle.std.specs.Prelude.{List, [], ◌∷◌, ◌++◌, drop}
use Rattle.ot_model.specs.declared.op.Kind.{Kind}
use Rattle.fn_rules.specs.declared.function.ObName.{ObName}
use Rattle.fn_rules.specs.Functions.{Function, GuardedCase}
use Rattle.proof_trees.specs.Starts.{MarkedPlan, Ask, Holds, Fails}
use Rattle.proof_trees.specs.Startless.{startless}
use Rattle.ot_questions.specs.declared.place.Place.{Place}
use Rattle.ot_questions.specs.declared.place.SymOp.{SymOp}
use Rattle.ot_questions.specs.declared.place.SymOp.TheVariants.{Nop}
use Rattle.ot_questions.specs.declared.why.Why.{Why}
use Rattle.ot_questions.specs.declared.why.Why.TheVariants.{Undefined}
use Rattle.ot_questions.specs.Places.{sym_kind, sym_result}
use Rattle.ot_terms.specs.declared.goal.GoalProgress.{GoalProgress}
use Rattle.ot_terms.specs.Belonging.{next_operands}
use Rattle.ot_terms.specs.Forms.{FormTree, by_form}
use Rattle.ot_terms.specs.Goals as goals
use Rattle.ot_terms.specs.Goals.{GoalTree}
use Rattle.ot_terms.specs.Placing.{guard_form}
use Rattle.ot_terms.specs.Standing.{ask_after, ask_goal, results_of}
use Rattle.ot_terms.specs.Starting.{start_goal_of}
use Rattle.ot_terms.specs.Weights.{transforms_of}
use Rattle.start_laws.specs.Begun.{start_after}
use Rattle.start_laws.specs.Starts.{Start}

-- a plan of an obligation, with its starts
abbrev pub Marked : Type 0
Marked = MarkedPlan Start Why

-- the plan with this start at its first place, or with none there
abbrev pub with_start : Option Start → Marked → Marked
with_start start (Ask other l on_yes on_no) = Ask start l on_yes on_no
with_start start (Holds other) = Holds start
with_start start (Fails other why) = Fails start why

-- The questions of a form have no starts. Where nothing is asked, the first place is that of the plan that follows.
abbrev pub marked_places : Place → Place → Marked → Marked → Marked
marked_places x y on_yes on_no = Ask None (record { x = x.var; y = y.var; k = y.off -ℤ x.off }) on_yes on_no

unfoldable pub marked_form : FormTree → Marked → Marked → Marked
marked_form g on_yes on_no = by_form marked_places g on_yes on_no

-- the cases in their order, until the guard of one is true; goes on with its result
unfoldable pub marked_cases : List GuardedCase → SymOp → SymOp → (SymOp → Marked) → Marked
marked_cases [] a b go = Fails None Undefined
marked_cases (c ∷ cs) a b go = marked_form (guard_form c.guard a b) (go (sym_result c.res a b)) (marked_cases cs a b go)

-- by the kinds of the two operations, which nop has not: where one is nop, nothing is asked
unfoldable pub marked_by_kinds : Function → ℕ → SymOp → SymOp → Option Kind → Option Kind → (SymOp → Marked) → Marked
marked_by_kinds f case a b None l go = go Nop
marked_by_kinds f case a b (Some k) None go = go a
marked_by_kinds f case a b (Some k) (Some l) go = marked_cases (drop case (f.cases k l)) a b go

-- what the first operation becomes after the second, by the cases of their block from a number on
abbrev pub marked_transform : Function → ℕ → SymOp → SymOp → (SymOp → Marked) → Marked
marked_transform f case a b go = marked_by_kinds f case a b (sym_kind a) (sym_kind b) go

-- Where a transformation follows, it begins here; after the last one there are no starts.
unfoldable pub marked_next : Function → Start → Option (SymOp × SymOp) → (SymOp → Marked) → Marked
marked_next f start None go = startless (ask_after f start.ob start.ops start.got)
marked_next f start (Some next) go = with_start (Some start) (marked_transform f 0 next.0 next.1 go)

-- What is left of an obligation with these operations after these results, of which at most so many are still to
-- come: each further transformation in its order, and then the end.
unfoldable pub marked_after : ℕ → Function → ObName → List SymOp → List SymOp → Marked
marked_after zero f ob ops got = startless (ask_after f ob ops got)
marked_after (suc most) f ob ops got =
    marked_next f (record { ob = ob; ops = ops; got = got }) (next_operands ob ops got)
    (λ r. marked_after most f ob ops (got ++ r ∷ []))

-- what is left with one more result
abbrev pub marked_with : Function → GoalProgress → SymOp → Marked
marked_with f progress r =
    marked_after (transforms_of progress.ob - (1 + progress.count)) f progress.ob progress.ops
    (results_of progress ++ r ∷ [])

-- a transformation begins with its first case
abbrev pub begun_transform : ℕ → GoalProgress → Marked → Marked
begun_transform zero progress p = with_start (Some (start_after progress None)) p
begun_transform (suc case) progress p = p

-- the plan that a goal stands for, with its starts
unfoldable pub marked_goal : Function → GoalTree → Marked
marked_goal f goals.Holds = Holds None
marked_goal f (goals.Fails why) = Fails None why
marked_goal f (goals.If g on_yes on_no) = marked_form g (marked_goal f on_yes) (marked_goal f on_no)
marked_goal f (goals.Choose case a b progress) =
    begun_transform case progress (marked_transform f case a b (marked_with f progress))
marked_goal f (goals.Deliver o progress) = marked_with f progress o
marked_goal f (goals.Same left right) = startless (ask_goal f (goals.Same left right))

-- the plan of an obligation, with its starts
abbrev pub marked_plan : Function → ObName → Marked
marked_plan f ob = marked_goal f (start_goal_of f.head ob)
