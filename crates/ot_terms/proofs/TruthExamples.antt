-- The truth of goals, computed on small ones.
use Rattle.std.proofs.Common.{◌≡◌, ℕ, zero, suc, ℤ, pos, negsuc, if◌then◌else◌, nat_eq, Some, None, [], ◌∷◌, refl, ap}
use Rattle.std.proofs.Common.{sym}
use Rattle.std.specs.Ordering.{int_eq}
use Rattle.std.proofs.lemmas.Bool.{false≢true}
use Rattle.ot_model.specs.declared.op.Kind.TheVariants as kinds
use Rattle.fn_rules.specs.declared.function.ObName.TheVariants.{Pair, Triple}
use Rattle.fn_rules.specs.Shipped.{sites}
use Rattle.ot_questions.specs.declared.name.Who.TheVariants.{A, B, C}
use Rattle.ot_questions.specs.declared.place.SymOp.{SymOp}
use Rattle.ot_questions.specs.declared.place.SymOp.TheVariants.{Ins, Del, Nop}
use Rattle.ot_questions.specs.declared.why.Why.TheVariants.{Undefined}
use Rattle.ot_questions.specs.Places.{place, zero_place, index_and, sym_op}
use Rattle.ot_terms.specs.declared.goal.GoalProgress.{GoalProgress}
use Rattle.ot_terms.specs.Forms as forms
use Rattle.ot_terms.specs.Documents as documents
use Rattle.ot_terms.specs.Cells as cells
use Rattle.ot_terms.specs.Goals as goals
use Rattle.ot_terms.specs.Meaning.{BaseDocument, char_cell, killed}
use Rattle.ot_terms.specs.Starting.{first_choice, start_goal_of}
use Rattle.ot_terms.specs.Truth.{result_from, goal_holds}

-- five cells and the index 2; the first position is 1, the second 3, and all other names are 4
abbrev apart : ℕ → ℤ
apart zero = pos 0
apart (suc zero) = pos 5
apart (suc (suc zero)) = pos 2
apart (suc (suc (suc zero))) = pos 1
apart (suc (suc (suc (suc (suc (suc zero)))))) = pos 3
apart x = pos 4

-- the smaller of two insertions stays, and the other one moves
smaller_stays : result_from sites apart 0 (sym_op kinds.Ins A) (sym_op kinds.Ins B) ≡ Some (sym_op kinds.Ins A)
smaller_stays = refl

larger_moves : result_from sites apart 0 (sym_op kinds.Ins B) (sym_op kinds.Ins A) ≡ Some (Ins (place 6 (pos 1)) 8 7)
larger_moves = refl

-- from the second case on, the first one is not tried; behind the last one there is none
without_the_first : result_from sites apart 1 (sym_op kinds.Ins A) (sym_op kinds.Ins B)
    ≡ Some (Ins (place 3 (pos 1)) 5 4)
without_the_first = refl

behind_the_last : result_from sites apart 3 (sym_op kinds.Ins A) (sym_op kinds.Ins B) ≡ None
behind_the_last = refl

-- of nop no case is tried
nop_stays : result_from sites apart 3 Nop (sym_op kinds.Ins B) ≡ Some Nop
nop_stays = refl

stays_behind_nop : result_from sites apart 3 (sym_op kinds.Ins A) Nop ≡ Some (sym_op kinds.Ins A)
stays_behind_nop = refl

-- two deletions, behind the result of the first transformation
abbrev with_first : SymOp → GoalProgress
with_first r = record {
  ob = Pair kinds.Del kinds.Del;
  ops = sym_op kinds.Del A ∷ sym_op kinds.Del B ∷ Nop ∷ [];
  got = r ∷ Nop ∷ Nop ∷ Nop ∷ Nop ∷ Nop ∷ [];
  count = 1;
}

-- the second deletion, one lower
abbrev lower : SymOp
lower = Del (place 6 (negsuc 0)) 7

-- at the index both ways come to the cell 4 of each base document
one_document : goal_holds sites apart (goals.Deliver (sym_op kinds.Del A) (with_first lower))
one_document = record { b_enabled = refl; a_enabled = refl; lengths = refl; cells = λ within base. refl }

whole_pair :
    goal_holds sites apart (first_choice (Pair kinds.Del kinds.Del) (sym_op kinds.Del A) (sym_op kinds.Del B) Nop)
whole_pair = one_document

-- the cell 4 is dead, the others are live
abbrev fourth_dead : BaseDocument
fourth_dead = record { placed = (pos 4, killed (char_cell (pos 70))) ∷ []; elsewhere = char_cell (pos 70) }

-- a deletion that is not moved takes the cell 4 on one way alone
not_one_document : goal_holds sites apart (goals.Deliver (sym_op kinds.Del A) (with_first (sym_op kinds.Del B))) → ⊥
not_one_document h = false≢true (sym (ap (λ cell. cell.live) (h.cells refl fourth_dead)))

-- a deletion behind the end is not enabled
not_enabled : goal_holds sites apart (goals.Deliver (sym_op kinds.Del A) (with_first (Del (place 6 (pos 1)) 7))) → ⊥
not_enabled h = false≢true h.b_enabled

-- one way is longer where a result is nop
not_one_length : goal_holds sites apart (goals.Deliver (sym_op kinds.Del A) (with_first Nop)) → ⊥
not_one_length h = false≢true (sym (ap (λ n. int_eq n (negsuc 0)) h.lengths))

-- of three insertions the last results of the two ways
abbrev with_left : SymOp → GoalProgress
with_left left = record {
  ob = Triple kinds.Ins kinds.Ins kinds.Ins;
  ops = sym_op kinds.Ins A ∷ sym_op kinds.Ins B ∷ sym_op kinds.Ins C ∷ [];
  got = sym_op kinds.Ins B ∷ sym_op kinds.Ins C ∷ left ∷ sym_op kinds.Ins A ∷ sym_op kinds.Ins C ∷ Nop ∷ [];
  count = 5;
}

one_form :
    goal_holds sites apart (goals.Deliver (Ins (place 9 (pos 0)) 11 10) (with_left (Ins (place 6 (pos 1)) 11 10)))
one_form = refl

not_one_form : goal_holds sites apart (goals.Deliver (Ins (place 9 (pos 0)) 11 10) (with_left Nop)) → ⊥
not_one_form h = false≢true h

-- three insertions, the third one behind the others: both ways move it by two
whole_triple :
    goal_holds sites apart
    (first_choice (Triple kinds.Ins kinds.Ins kinds.Ins) (sym_op kinds.Ins A) (sym_op kinds.Ins B) (sym_op kinds.Ins C))
whole_triple = refl

-- the first position is 2, and all else is 1
abbrev crossed : ℕ → ℤ
crossed x = if nat_eq x 3 then pos 2 else pos 1

-- a deletion makes two insertions meet that were apart: the third operation is 1 on the one way, and 2 on the other
puzzle :
    goal_holds sites crossed
    (first_choice (Triple kinds.Ins kinds.Del kinds.Ins) (sym_op kinds.Ins A) (sym_op kinds.Del B) (sym_op kinds.Ins C))
    → ⊥
puzzle h = false≢true h

-- a form chooses
by_form :
    goal_holds sites apart (goals.If (forms.Le zero_place (index_and (pos 0))) goals.Holds (goals.Fails Undefined))
by_form = tt

-- a deletion at the end is not enabled: there is nothing to show
nothing_to_show : goal_holds sites (λ x. pos 4) (start_goal_of sites.head (Pair kinds.Del kinds.Del))
nothing_to_show = tt

-- two ways to read one cell
one_cell : goal_holds sites apart (goals.Same (cells.At (documents.Cut documents.Base (place 3 (pos 0)))
    (index_and (pos 0))) (cells.At documents.Base (index_and (pos 1))))
one_cell = λ base. refl
