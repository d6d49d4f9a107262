-- What is asked about the guards of a block, as goals: the positions of both operations, then what is assumed to
-- differ, and then the guards in their order. An end that fails is what is sought.
use Rattle.std.specs.Prelude.{◌<◌, ℕ, pos, List, [], ◌∷◌, take, slice_get, Option, Some, None}
use Rattle.ot_model.specs.declared.op.Kind.{Kind}
use Rattle.fn_rules.specs.declared.function.Head.{Head}
use Rattle.fn_rules.specs.Functions.{Function, GuardedCase, cases_of}
use Rattle.ot_questions.specs.declared.name.Who.{Who}
use Rattle.ot_questions.specs.declared.name.Who.TheVariants.{A, B}
use Rattle.ot_questions.specs.declared.place.Place.{Place}
use Rattle.ot_questions.specs.declared.place.SymOp.{SymOp}
use Rattle.ot_questions.specs.declared.why.Why.TheVariants.{Operations}
use Rattle.ot_questions.specs.Names.{position_name}
use Rattle.ot_questions.specs.Places.{place, zero_place, sym_op, sym_kind, sym_at, sym_result}
use Rattle.ot_terms.specs.Forms.{Le, Eq}
use Rattle.ot_terms.specs.Goals.{GoalTree, Holds, Fails, If}
use Rattle.ot_terms.specs.Placing.{guard_form}
use Rattle.ot_terms.specs.Starting.{if_allowed}
use Rattle.ot_audit.specs.declared.target.Target.{Target}
use Rattle.ot_audit.specs.declared.target.Target.TheVariants.{Case, Open}

-- what is sought was found; the cause is of no account
abbrev pub found : GoalTree
found = Fails Operations

-- the operation's position is not negative; where it is, nothing is sought
abbrev pub if_there : Who → GoalTree → GoalTree
if_there who next = If (Le zero_place (place (position_name who) (pos 0))) next Holds

-- both positions are not negative, and the operations may be with each other; where not, nothing is sought
abbrev pub if_meant : Head → SymOp → SymOp → GoalTree → GoalTree
if_meant head a b next = if_there A (if_there B (if_allowed head a b next))

-- the guards in their order: where one is true, nothing is sought, and where none is, the next goal
abbrev pub unless_true : List GuardedCase → SymOp → SymOp → GoalTree → GoalTree
unless_true [] a b next = next
unless_true (c ∷ cs) a b next = If (guard_form c.guard a b) Holds (unless_true cs a b next)

-- the guard of the case is what is sought to be true
abbrev pub at_own : Option GuardedCase → SymOp → SymOp → GoalTree
at_own None a b = Holds
at_own (Some c) a b = If (guard_form c.guard a b) found Holds

-- a case is reached behind all earlier guards, and the open end behind all guards
abbrev pub at_target : List GuardedCase → Target → SymOp → SymOp → GoalTree
at_target cs (Case i) a b = unless_true (take i cs) a b (at_own (slice_get cs i) a b)
at_target cs Open a b = unless_true cs a b found

-- where the target of the block of two kinds is reached
abbrev pub target_goal : Function → Kind → Kind → Target → GoalTree
target_goal f k l target =
    if_meant f.head (sym_op k A) (sym_op l B) (at_target (cases_of f k l) target (sym_op k A) (sym_op l B))

-- goes on with the result of the first case whose guard is true, or with none
abbrev pub with_first_result : List GuardedCase → SymOp → SymOp → (Option SymOp → GoalTree) → GoalTree
with_first_result [] a b go = go None
with_first_result (c ∷ cs) a b go =
    If (guard_form c.guard a b) (go (Some (sym_result c.res a b))) (with_first_result cs a b go)

-- by the kinds of two results of one operation, which nop has not: both are nop, or both stand at one place
abbrev pub unless_one_place : Option Kind → Option Kind → Place → Place → GoalTree
unless_one_place None None at there = Holds
unless_one_place None (Some l) at there = found
unless_one_place (Some k) None at there = found
unless_one_place (Some k) (Some l) at there = If (Eq at there) Holds found

-- what is sought is that one result is there and the other is not, or that they differ
abbrev pub unless_same : Option SymOp → Option SymOp → GoalTree
unless_same None None = Holds
unless_same None (Some y) = found
unless_same (Some x) None = found
unless_same (Some x) (Some y) = unless_one_place (sym_kind x) (sym_kind y) (sym_at x) (sym_at y)

-- the guards of both lists, the first list first, and then the two results
abbrev pub unless_agreed : List GuardedCase → List GuardedCase → SymOp → SymOp → GoalTree
unless_agreed cs ds a b = with_first_result cs a b (λ x. with_first_result ds a b (λ y. unless_same x y))

-- where two functions of one head do not agree on the block of two kinds
abbrev pub difference_goal : Function → Function → Kind → Kind → GoalTree
difference_goal f g k l =
    if_meant f.head (sym_op k A) (sym_op l B) (unless_agreed (cases_of f k l) (cases_of g k l) (sym_op k A)
    (sym_op l B))

-- the target is one of so many cases, or the open end
abbrev pub IsTargetOf : ℕ → Target → Type 0
IsTargetOf count (Case i) = i < count
IsTargetOf count Open = Unit {0}
