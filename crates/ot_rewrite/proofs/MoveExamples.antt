-- Transformations and results, rewritten on small goals.
use Rattle.std.proofs.Common.{◌≡◌, ℕ, ◌+◌, pos, negsuc, Some, List, [], ◌∷◌, refl}
use Rattle.ot_model.specs.declared.op.Kind.TheVariants as kinds
use Rattle.fn_rules.specs.declared.function.ObName.TheVariants.{Pair, Triple}
use Rattle.fn_rules.specs.Shipped.{ties, sites, marks}
use Rattle.ot_questions.specs.declared.place.SymOp.{SymOp}
use Rattle.ot_questions.specs.declared.place.SymOp.TheVariants.{Ins, Del, Nop}
use Rattle.ot_questions.specs.declared.why.Why.TheVariants.{Undefined, OutOfRange, Lengths, Operations}
use Rattle.ot_questions.specs.Places.{place, zero_place, length_and, index_and}
use Rattle.ot_terms.specs.declared.goal.GoalProgress.{GoalProgress}
use Rattle.ot_terms.specs.Forms.{True, Le, Lt, Eq, And}
use Rattle.ot_terms.specs.Documents.{Base, Put}
use Rattle.ot_terms.specs.Cells.{At}
use Rattle.ot_terms.specs.Goals.{Holds, Fails, If, Choose, Deliver, Same}
use Rattle.ot_rewrite.specs.Table.{rewritten}

-- two insertions, at names 3 and 6; the second one behind the first, moved by one
abbrev first : SymOp
first = Ins (place 3 (pos 0)) 5 4

abbrev second : SymOp
second = Ins (place 6 (pos 0)) 8 7

abbrev moved : SymOp
moved = Ins (place 6 (pos 1)) 8 7

-- a pair of insertions, with so many of these results
abbrev insertions : ℕ → List SymOp → GoalProgress
insertions n got = record { ob = Pair kinds.Ins kinds.Ins; ops = first ∷ second ∷ Nop ∷ []; got = got; count = n }

abbrev none_there : List SymOp
none_there = Nop ∷ Nop ∷ Nop ∷ Nop ∷ Nop ∷ Nop ∷ []

abbrev one_there : List SymOp
one_there = moved ∷ Nop ∷ Nop ∷ Nop ∷ Nop ∷ Nop ∷ []

-- the first case: an insertion that stands before the other one stays
first_case :
    rewritten ties (Choose 0 second first (insertions 0 none_there))
    ≡ Some
    (If (Lt (place 6 (pos 0)) (place 3 (pos 0))) (Deliver second (insertions 0 none_there))
    (Choose 1 second first (insertions 0 none_there)))
unfolding rewritten
first_case = refl

-- the second case: one that stands behind the other one moves
second_case :
    rewritten ties (Choose 1 second first (insertions 0 none_there))
    ≡ Some
    (If (Lt (place 3 (pos 0)) (place 6 (pos 0))) (Deliver moved (insertions 0 none_there))
    (Choose 2 second first (insertions 0 none_there)))
unfolding rewritten
second_case = refl

no_case : rewritten ties (Choose 2 second first (insertions 0 none_there)) ≡ Some (Fails Undefined)
unfolding rewritten
no_case = refl

-- nop stays nop, and changes no other
of_nop : rewritten ties (Choose 0 Nop first (insertions 0 none_there)) ≡ Some (Deliver Nop (insertions 0 none_there))
unfolding rewritten
of_nop = refl

behind_nop : rewritten ties (Choose 0 first Nop (insertions 0 none_there))
    ≡ Some (Deliver first (insertions 0 none_there))
unfolding rewritten
behind_nop = refl

-- behind the first result of a pair the first operation is transformed
first_result : rewritten ties (Deliver moved (insertions 0 none_there))
    ≡ Some (Choose 0 first second (insertions 1 one_there))
unfolding rewritten
first_result = refl

-- behind the second one both ways are compared
second_result :
    rewritten ties (Deliver first (insertions 1 one_there))
    ≡ Some
    (If (And (Le zero_place (place 6 (pos 1))) (Le (place 6 (pos 1)) (length_and (pos 1))))
    (If (And (Le zero_place (place 3 (pos 0))) (Le (place 3 (pos 0)) (length_and (pos 1))))
    (If (Le zero_place (index_and (pos 0)))
    (If (Lt (index_and (pos 0)) (length_and (pos 2)))
    (Same
    (At (Put (Put Base (place 3 (pos 0)) 5) (place 6 (pos 1)) 8) (index_and (pos 0)))
    (At (Put (Put Base (place 6 (pos 0)) 8) (place 3 (pos 0)) 5) (index_and (pos 0))))
    Holds)
    Holds)
    (Fails OutOfRange))
    (Fails OutOfRange))
unfolding rewritten
second_result = refl

-- deletions at the positions of the three operations
abbrev deletion : ℕ → SymOp
deletion x = Del (place x (pos 0)) (x + 1)

abbrev two_deletions : GoalProgress
two_deletions = record {
  ob = Pair kinds.Del kinds.Del;
  ops = deletion 3 ∷ deletion 6 ∷ Nop ∷ [];
  got = none_there;
  count = 1;
}

-- one way takes one cell out, and the other way two
different_lengths :
    rewritten sites (Deliver (deletion 3) two_deletions)
    ≡ Some
    (If True
    (If (And (Le zero_place (place 3 (pos 0))) (Lt (place 3 (pos 0)) (length_and (negsuc 0)))) (Fails Lengths)
    (Fails OutOfRange)) (Fails OutOfRange))
unfolding rewritten
different_lengths = refl

-- three deletions, with so many of these results
abbrev three_deletions : ℕ → List SymOp → GoalProgress
three_deletions n got = record {
  ob = Triple kinds.Del kinds.Del kinds.Del;
  ops = deletion 3 ∷ deletion 6 ∷ deletion 9 ∷ [];
  got = got;
  count = n;
}

-- behind one way of a triple the other one begins
other_way :
    rewritten marks (Deliver (deletion 9) (three_deletions 2 (deletion 6 ∷ deletion 9 ∷ Nop ∷ Nop ∷ Nop ∷ Nop ∷ [])))
    ≡ Some
    (Choose 0 (deletion 3) (deletion 6)
    (three_deletions 3 (deletion 6 ∷ deletion 9 ∷ deletion 9 ∷ Nop ∷ Nop ∷ Nop ∷ [])))
unfolding rewritten
other_way = refl

-- the last transformation of a triple: of the third operation's form, behind that of the first one
last_of_six :
    rewritten marks (Deliver (deletion 9) (three_deletions 4 (deletion 6 ∷ Nop ∷ Nop ∷ deletion 3 ∷ Nop ∷ Nop ∷ [])))
    ≡ Some
    (Choose 0 (deletion 9) (deletion 3)
    (three_deletions 5 (deletion 6 ∷ Nop ∷ Nop ∷ deletion 3 ∷ deletion 9 ∷ Nop ∷ [])))
unfolding rewritten
last_of_six = refl

-- behind both ways the two forms are compared: by their places, or by their kinds alone
same_kinds :
    rewritten marks
    (Deliver (deletion 9) (three_deletions 5 (Nop ∷ Nop ∷ Del (place 9 (pos 1)) 10 ∷ Nop ∷ Nop ∷ Nop ∷ [])))
    ≡ Some (If (Eq (place 9 (pos 1)) (place 9 (pos 0))) Holds (Fails Operations))
unfolding rewritten
same_kinds = refl

other_kinds : rewritten marks (Deliver (deletion 9) (three_deletions 5 none_there)) ≡ Some (Fails Operations)
unfolding rewritten
other_kinds = refl

both_nop : rewritten marks (Deliver Nop (three_deletions 5 none_there)) ≡ Some Holds
unfolding rewritten
both_nop = refl
