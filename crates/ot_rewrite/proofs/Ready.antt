-- A goal of a function and an obligation is ready for a rule.
use Rattle.std.proofs.Common.{ℕ, ◌<◌, ℤ, pos, negsuc, ◌+ℤ◌, ◌-ℤ◌, ◌≤ℤ◌, length, arith}
use Rattle.std.proofs.lemmas.Int.{ints}
use Rattle.ot_model.specs.declared.op.Mode.{Mode}
use Rattle.fn_rules.specs.declared.function.ObName.{ObName}
use Rattle.fn_rules.specs.declared.function.ObName.TheVariants.{Pair, Triple}
use Rattle.fn_rules.specs.Functions.{Function}
use Rattle.ot_questions.specs.Names.{name_count}
use Rattle.ot_questions.specs.Nears.{IsNear}
use Rattle.ot_terms.specs.Forms as forms
use Rattle.ot_terms.specs.Forms.{FormTree}
use Rattle.ot_terms.specs.Cells as cells
use Rattle.ot_terms.specs.Cells.{CellTree}
use Rattle.ot_terms.specs.Goals as goals
use Rattle.ot_terms.specs.Goals.{GoalTree}
use Rattle.ot_terms.specs.Standing.{changes_of}
use Rattle.ot_terms.specs.Weights.{transforms_of}
use Rattle.ot_terms.specs.Belonging.{HasPlaces, IsCellOf, HasParts, IsGoalOf}
use Rattle.cell_rules.specs.Cells.{IsReadable}
use Rattle.ot_rewrite.specs.Steps.{IsLoweredForm, IsReadyGoal}

-- offsets of places are small enough for a literal
lowered : (count : ℕ) (g : FormTree) → HasPlaces count g → IsLoweredForm g
lowered count forms.True h = tt
lowered count (forms.Le x y) h = tt
lowered count (forms.Lt x y) h =
    let low : negsuc 198 ≤ℤ y.off = h.1.low in
    let high : y.off ≤ℤ pos 200 = h.1.high in
    record { low = omega (arith, ints); high = omega (arith, ints) }
lowered count (forms.Eq x y) h = tt
lowered count (forms.And g h) both = tt
lowered count (forms.Or g h) both = tt
lowered count (forms.Not g) h = tt

between : (n : ℕ) (k : ℤ) → IsNear 200 (k -ℤ pos n) → IsNear 200 (k +ℤ pos n) → IsNear 999 k
between n k low high =
    let least : negsuc 199 ≤ℤ (k -ℤ pos n) = low.low in
    let most : (k +ℤ pos n) ≤ℤ pos 200 = high.high in
    record { low = omega (arith, ints); high = omega (arith, ints) }

readable : (mode : Mode) (count : ℕ) (cell : CellTree) → IsCellOf mode count cell → IsReadable cell
readable mode count (cells.At d at) h = between (length (changes_of d)) at.off h.1.low h.1.high
readable mode count (cells.Char ch) h = tt
readable mode count (cells.Dead cell) h = readable mode count cell h
readable mode count (cells.Over ch cell) h = readable mode count cell h.1
readable mode count (cells.If g on_yes on_no) h = tt

few : (ob : ObName) (n : ℕ) → n < transforms_of ob → n < 6
few (Pair k l) n h = omega arith
few (Triple k l m) n h = h

ready_parts : (f : Function) (ob : ObName) (g : GoalTree) → HasParts f ob g → IsReadyGoal f g
ready_parts f ob goals.Holds h = tt
ready_parts f ob (goals.Fails why) h = tt
ready_parts f ob (goals.If g on_yes on_no) h = lowered (name_count ob) g h.0
ready_parts f ob (goals.Choose case a b plan) h =
    record {
      a_declared = h.a_declared;
      b_declared = h.b_declared;
      a_near = h.a_near;
      b_near = h.b_near;
      cases = h.cases;
    }
ready_parts f ob (goals.Deliver o plan) h = few ob plan.count h.0.awaited
ready_parts f ob (goals.Same left right) h =
    (readable f.head.mode (name_count ob) left h.0, readable f.head.mode (name_count ob) right h.1)

pub ready : (f : Function) (ob : ObName) (g : GoalTree) → IsGoalOf f ob g → IsReadyGoal f g
ready f ob g h = ready_parts f ob g h.parts
