-- The goals behind the last transformation of an obligation.
use Rattle.std.specs.Prelude.{ℤ, pos, ◌+ℤ◌, if◌then◌else◌, List, [], ◌∷◌, Option, Some, None}
use Rattle.std.specs.Ordering.{int_eq}
use Rattle.ot_model.specs.declared.op.Kind.{Kind}
use Rattle.ot_model.specs.declared.op.Mode.{Mode}
use Rattle.fn_rules.specs.declared.function.ObName.{ObName}
use Rattle.fn_rules.specs.declared.function.ObName.TheVariants.{Pair, Triple}
use Rattle.ot_questions.specs.declared.place.Place.{Place}
use Rattle.ot_questions.specs.declared.place.SymOp.{SymOp}
use Rattle.ot_questions.specs.declared.why.Why.TheVariants.{OutOfRange, Lengths, Operations}
use Rattle.ot_questions.specs.Places.{zero_place, length_and, index_and, sym_kind, sym_at, growth}
use Rattle.ot_terms.specs.Forms.{Le, Lt, Eq}
use Rattle.ot_terms.specs.Documents.{DocTree}
use Rattle.ot_terms.specs.Changes.{doc_of}
use Rattle.ot_terms.specs.Cells.{At}
use Rattle.ot_terms.specs.Goals.{GoalTree, Holds, Fails, If, Same}
use Rattle.ot_terms.specs.Starting.{enabled_form}

-- where the index is within documents of the length plus an offset, the two documents have the same cell there
abbrev pub same_documents : DocTree → DocTree → ℤ → GoalTree
same_documents left right off =
    If (Le zero_place (index_and (pos 0)))
    (If (Lt (index_and (pos 0)) (length_and off)) (Same (At left (index_and (pos 0))) (At right (index_and (pos 0))))
    Holds)
    Holds

-- both ways have one length, and then the same cells
abbrev pub same_lengths : Mode → SymOp → SymOp → SymOp → SymOp → GoalTree
same_lengths mode a b_after_a b a_after_b =
    if int_eq (growth mode a +ℤ growth mode b_after_a) (growth mode b +ℤ growth mode a_after_b)
    then
    same_documents (doc_of mode (b_after_a ∷ a ∷ [])) (doc_of mode (a_after_b ∷ b ∷ []))
    (growth mode a +ℤ growth mode b_after_a)
    else Fails Lengths

-- both forms are enabled behind the other operation, and then both ways give one document
abbrev pub both_ways : Mode → SymOp → SymOp → SymOp → SymOp → GoalTree
both_ways mode a b_after_a b a_after_b =
    If (enabled_form b_after_a (growth mode a))
    (If (enabled_form a_after_b (growth mode b)) (same_lengths mode a b_after_a b a_after_b) (Fails OutOfRange))
    (Fails OutOfRange)

-- by the kinds of two forms, which nop has not: both are nop, or both stand at one place
abbrev pub one_place : Option Kind → Option Kind → Place → Place → GoalTree
one_place None None at there = Holds
one_place None (Some l) at there = Fails Operations
one_place (Some k) None at there = Fails Operations
one_place (Some k) (Some l) at there = If (Eq at there) Holds (Fails Operations)

-- two forms of one operation are equal
abbrev pub one_form : SymOp → SymOp → GoalTree
one_form left right = one_place (sym_kind left) (sym_kind right) (sym_at left) (sym_at right)

-- what is left of a pair with these operations behind these results
abbrev pub end_of_pair : Mode → List SymOp → List SymOp → GoalTree
end_of_pair mode (a ∷ b ∷ os) (b_after_a ∷ a_after_b ∷ got) = both_ways mode a b_after_a b a_after_b
end_of_pair mode os got = Holds

-- what is left of a triple behind these results
abbrev pub end_of_triple : List SymOp → GoalTree
end_of_triple (b_after_a ∷ c_after_a ∷ left ∷ a_after_b ∷ c_after_b ∷ right ∷ got) = one_form left right
end_of_triple got = Holds

-- what is left of an obligation behind its last result
abbrev pub end_goal : Mode → ObName → List SymOp → List SymOp → GoalTree
end_goal mode (Pair k l) os got = end_of_pair mode os got
end_goal mode (Triple k l m) os got = end_of_triple got
