-- The plan of an obligation: what has to be asked of two or three operations of its kinds to decide
-- whether the property holds for them.
use Rattle.std.specs.Prelude.{ℕ, ℤ, pos, ◌+ℤ◌, ◌-ℤ◌, if◌then◌else◌, List, [], ◌∷◌, Option, Some, None}
use Rattle.std.specs.Ordering.{int_eq}
use Rattle.ot_model.specs.declared.op.Kind.{Kind}
use Rattle.ot_model.specs.declared.op.Mode.{Mode}
use Rattle.fn_rules.specs.declared.function.ObName.{ObName}
use Rattle.fn_rules.specs.declared.function.ObName.TheVariants.{Pair, Triple}
use Rattle.fn_rules.specs.Functions.{Function}
use Rattle.ask_core.specs.Plans.{Plan, Ask, Holds, Fails}
use Rattle.ot_questions.specs.declared.name.Who.TheVariants.{A, B, C}
use Rattle.ot_questions.specs.declared.place.Place.{Place}
use Rattle.ot_questions.specs.declared.place.SymOp.{SymOp}
use Rattle.ot_questions.specs.declared.why.Why.{Why}
use Rattle.ot_questions.specs.declared.why.Why.TheVariants.{OutOfRange, Lengths, Operations}
use Rattle.ot_questions.specs.Names.{zero_name, length_name}
use Rattle.ot_questions.specs.Places.{zero_place, length_and, index_and, sym_op, sym_kind, sym_at, growth}
use Rattle.ot_questions.specs.Questions.{ask_le, ask_lt, ask_eq, ask_transform, ask_enabled, ask_allowed}
use Rattle.ot_questions.specs.Reading.{ask_cell, ask_same}

-- where the index is within documents of the length plus an offset: whether the cells there, of the
-- documents that the operations made, the last one first, are the same
unfoldable pub ask_documents : Mode → List SymOp → List SymOp → ℤ → Plan Why
ask_documents mode left right off =
    ask_le zero_place (index_and (pos 0))
    (ask_lt (index_and (pos 0)) (length_and off)
    (ask_cell mode left (pos 0) (λ x. ask_cell mode right (pos 0) (λ y. ask_same x y)))
    Holds)
    Holds

-- whether the documents have one length, and then the same cells
unfoldable pub ask_lengths : Mode → SymOp → SymOp → SymOp → SymOp → Plan Why
ask_lengths mode a b_after_a b a_after_b =
    let left = growth mode a +ℤ growth mode b_after_a in
    if int_eq left (growth mode b +ℤ growth mode a_after_b)
    then ask_documents mode (b_after_a ∷ a ∷ []) (a_after_b ∷ b ∷ []) left
    else Fails Lengths

-- whether both forms are enabled behind the other operation, and then whether both ways give one document
unfoldable pub ask_ways : Mode → SymOp → SymOp → SymOp → SymOp → Plan Why
ask_ways mode a b_after_a b a_after_b =
    ask_enabled b_after_a (growth mode a)
    (ask_enabled a_after_b (growth mode b) (ask_lengths mode a b_after_a b a_after_b) (Fails OutOfRange))
    (Fails OutOfRange)

-- of two operations that are enabled and allowed: whether they converge
unfoldable pub ask_converge : Function → SymOp → SymOp → Plan Why
ask_converge f a b =
    ask_transform f b a
    (λ b_after_a. ask_transform f a b (λ a_after_b. ask_ways f.head.mode a b_after_a b a_after_b))

-- asks each of the operations whether it is enabled on the document itself; where one is not, nothing is
-- to be shown
unfoldable pub ask_all_enabled : List SymOp → Plan Why → Plan Why
ask_all_enabled [] next = next
ask_all_enabled (o ∷ os) next = ask_enabled o (pos 0) (ask_all_enabled os next) Holds

unfoldable pub ask_pair : Function → SymOp → SymOp → Plan Why
ask_pair f a b =
    ask_le zero_place (length_and (pos 0))
    (ask_all_enabled (a ∷ b ∷ []) (ask_allowed f.head a b (ask_converge f a b)))
    Holds

-- by the kinds of two forms, which nop has not: both are nop, or both stand at one place
unfoldable pub ask_one_place : Option Kind → Option Kind → Place → Place → Plan Why
ask_one_place None None at there = Holds
ask_one_place None (Some l) at there = Fails Operations
ask_one_place (Some k) None at there = Fails Operations
ask_one_place (Some k) (Some l) at there = ask_eq at there Holds (Fails Operations)

-- whether two forms of one operation are equal; only their positions can differ
unfoldable pub ask_same_form : SymOp → SymOp → Plan Why
ask_same_form a b = ask_one_place (sym_kind a) (sym_kind b) (sym_at a) (sym_at b)

-- the form of `c` behind `a` and then `b`
unfoldable pub ask_behind : Function → SymOp → SymOp → SymOp → (SymOp → Plan Why) → Plan Why
ask_behind f a b c go =
    ask_transform f b a
    (λ b_after_a. ask_transform f c a (λ c_after_a. ask_transform f c_after_a b_after_a go))

-- of three operations that are enabled and allowed: whether the third has one form behind the first two
unfoldable pub ask_commute : Function → SymOp → SymOp → SymOp → Plan Why
ask_commute f a b c =
    ask_behind f a b c (λ left. ask_behind f b a c (λ right. ask_same_form left right))

unfoldable pub ask_triple : Function → SymOp → SymOp → SymOp → Plan Why
ask_triple f a b c =
    ask_le zero_place (length_and (pos 0))
    (ask_all_enabled (a ∷ b ∷ c ∷ [])
    (ask_allowed f.head a b (ask_allowed f.head a c (ask_allowed f.head b c (ask_commute f a b c)))))
    Holds

-- what is asked of an obligation
unfoldable pub plan_of : Function → ObName → Plan Why
plan_of f (Pair k l) = ask_pair f (sym_op k A) (sym_op l B)
plan_of f (Triple k l m) = ask_triple f (sym_op k A) (sym_op l B) (sym_op m C)

-- what is asked of an obligation on the documents of fewer cells than a bound, if there is one: first whether
-- the length is below it, and where it is not, nothing is to be shown
abbrev pub plan_below : Function → Option ℕ → ObName → Plan Why
plan_below f None ob = plan_of f ob
plan_below f (Some bound) ob =
    Ask (record { x = length_name; y = zero_name; k = pos bound -ℤ pos 1 }) (plan_of f ob) Holds
