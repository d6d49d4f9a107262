-- The rules by which a goal is rewritten at its front.
use Rattle.std.specs.Prelude.{ℕ, suc, pos, negsuc, if◌then◌else◌, nat_eq, int_le, List, [], ◌∷◌, drop, Option}
use Rattle.std.specs.Prelude.{Some, None, slice_set}
use Rattle.ot_model.specs.declared.op.Kind.{Kind}
use Rattle.fn_rules.specs.Functions.{Function, GuardedCase}
use Rattle.ot_questions.specs.declared.cell.Finished.{Finished}
use Rattle.ot_questions.specs.declared.cell.Source.{Source}
use Rattle.ot_questions.specs.declared.cell.Source.TheVariants as sources
use Rattle.ot_questions.specs.declared.place.SymOp.{SymOp}
use Rattle.ot_questions.specs.declared.place.SymOp.TheVariants as ops
use Rattle.ot_questions.specs.declared.why.Why.{Why}
use Rattle.ot_questions.specs.declared.why.Why.TheVariants.{Undefined}
use Rattle.ot_questions.specs.Places.{place, plus, sym_kind, sym_result}
use Rattle.ot_questions.specs.Reading.{cells_cause, is_same_flag}
use Rattle.std.specs.Ordering.{int_eq}
use Rattle.ot_terms.specs.declared.goal.GoalProgress.{GoalProgress}
use Rattle.ot_terms.specs.Forms.{FormTree, True, Le, Lt, Eq, And, Or, Not}
use Rattle.ot_terms.specs.Cells as cells
use Rattle.ot_terms.specs.Cells.{CellTree}
use Rattle.ot_terms.specs.Goals.{GoalTree, Holds, Fails, If, Choose, Deliver, Same}
use Rattle.ot_terms.specs.Placing.{guard_form}
use Rattle.ot_terms.specs.Standing.{results_of}
use Rattle.ot_terms.specs.Belonging.{next_operands}
use Rattle.cell_rules.specs.Cells.{read_step, finished_cell}
use Rattle.ot_rewrite.specs.Ends.{end_goal}

-- one of two goals, by a form: a question is left only where two different names are compared by `Le`
abbrev pub rewrite_if : FormTree → GoalTree → GoalTree → Option GoalTree
rewrite_if True on_yes on_no = Some on_yes
rewrite_if (Le x y) on_yes on_no =
    if nat_eq x.var y.var then Some (if int_le x.off y.off then on_yes else on_no) else None
rewrite_if (Lt x y) on_yes on_no = Some (If (Le x (plus y (negsuc 0))) on_yes on_no)
rewrite_if (Eq x y) on_yes on_no = Some (If (Le x y) (If (Le y x) on_yes on_no) on_no)
rewrite_if (And g h) on_yes on_no = Some (If g (If h on_yes on_no) on_no)
rewrite_if (Or g h) on_yes on_no = Some (If g on_yes (If h on_yes on_no))
rewrite_if (Not g) on_yes on_no = Some (If g on_no on_yes)

-- the cases that are left, of the case number on
abbrev pub choose_case : List GuardedCase → ℕ → SymOp → SymOp → GoalProgress → GoalTree
choose_case [] case a b progress = Fails Undefined
choose_case (c ∷ cs) case a b progress =
    If (guard_form c.guard a b) (Deliver (sym_result c.res a b) progress) (Choose (suc case) a b progress)

-- by the kinds of the two operations, which nop has not
abbrev pub choose_by_kinds : Function → ℕ → SymOp → SymOp → Option Kind → Option Kind → GoalProgress → GoalTree
choose_by_kinds f case a b None l progress = Deliver ops.Nop progress
choose_by_kinds f case a b (Some k) None progress = Deliver a progress
choose_by_kinds f case a b (Some k) (Some l) progress = choose_case (drop case (f.cases k l)) case a b progress

abbrev pub rewrite_choose : Function → ℕ → SymOp → SymOp → GoalProgress → GoalTree
rewrite_choose f case a b progress = choose_by_kinds f case a b (sym_kind a) (sym_kind b) progress

-- the progress with one more result
abbrev pub with_result : GoalProgress → SymOp → GoalProgress
with_result progress r = record {
  ob = progress.ob;
  ops = progress.ops;
  got = slice_set progress.got progress.count r;
  count = suc progress.count;
}

-- the next transformation, or the end of the obligation
abbrev pub go_on : Function → GoalProgress → Option (SymOp × SymOp) → GoalTree
go_on f progress (Some pair) = Choose 0 pair.0 pair.1 progress
go_on f progress None = end_goal f.head.mode progress.ob progress.ops (results_of progress)

abbrev pub rewrite_deliver : Function → SymOp → GoalProgress → GoalTree
rewrite_deliver f r progress = go_on f (with_result progress r)
    (next_operands progress.ob progress.ops (results_of (with_result progress r)))

-- two characters are the same: one base cell's, or those of two names
abbrev pub same_source : Source → Source → Why → GoalTree
same_source (sources.Base off) (sources.Base there) why = if int_eq off there then Holds else Fails why
same_source (sources.Base off) (sources.Named d) why = Fails why
same_source (sources.Named c) (sources.Base off) why = Fails why
same_source (sources.Named c) (sources.Named d) why = If (Eq (place c (pos 0)) (place d (pos 0))) Holds (Fails why)

-- two finished cells are the same
abbrev pub same_finished : Finished → Finished → GoalTree
same_finished x y =
    if is_same_flag x.flag y.flag then same_source x.source y.source (cells_cause x y) else Fails (cells_cause x y)

-- both cells are finished, or none
abbrev pub both_finished : Option Finished → Option Finished → Option GoalTree
both_finished (Some x) (Some y) = Some (same_finished x y)
both_finished None y = None
both_finished (Some x) None = None

-- a question in front of a cell comes before the comparison; another cell is finished
abbrev pub parted : CellTree → (CellTree → GoalTree) → Option GoalTree → Option GoalTree
parted (cells.At d at) go finished = finished
parted (cells.Char ch) go finished = finished
parted (cells.Dead cell) go finished = finished
parted (cells.Over ch cell) go finished = finished
parted (cells.If g on_yes on_no) go finished = Some (If g (go on_yes) (go on_no))

-- the comparison where the left cell is finished: the right one is read
abbrev pub rewrite_right : CellTree → CellTree → Option CellTree → Option GoalTree
rewrite_right left right (Some read) = Some (Same left read)
rewrite_right left right None =
    parted right (λ r. Same left r) (both_finished (finished_cell left) (finished_cell right))

-- the comparison: the left cell is read first
abbrev pub rewrite_left : CellTree → CellTree → Option CellTree → Option GoalTree
rewrite_left left right (Some read) = Some (Same read right)
rewrite_left left right None = parted left (λ l. Same l right) (rewrite_right left right (read_step right))

abbrev pub rewrite_same : CellTree → CellTree → Option GoalTree
rewrite_same left right = rewrite_left left right (read_step left)

-- the goal after one rule; none where a question, or an end, stands at its front
unfoldable pub rewritten : Function → GoalTree → Option GoalTree
rewritten f Holds = None
rewritten f (Fails why) = None
rewritten f (If g on_yes on_no) = rewrite_if g on_yes on_no
rewritten f (Choose case a b progress) = Some (rewrite_choose f case a b progress)
rewritten f (Deliver r progress) = Some (rewrite_deliver f r progress)
rewritten f (Same left right) = rewrite_same left right
