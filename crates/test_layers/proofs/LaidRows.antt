-- Rows of forms that are split, of cells that are compared and of a guard that is laid out, computed on the definitions
-- that `split`, `same_finished` and `by_guard` are proved to answer by.
-- `src/splits.rt` and `src/askers.rt` call each once.
use Rattle.std.specs.Prelude.{◌≡◌, pos, negsuc, refl}
use Rattle.ot_model.specs.declared.op.Kind.TheVariants.{Del}
use Rattle.fn_rules.specs.declared.guard.Side.TheVariants.{First}
use Rattle.fn_rules.specs.declared.guard.Sort.TheVariants.{Pos}
use Rattle.fn_rules.specs.declared.guard.Cmp.TheVariants as comparisons
use Rattle.fn_rules.specs.Formulas.{Formula, Compare}
use Rattle.ot_questions.specs.declared.cell.Finished.{Finished}
use Rattle.ot_questions.specs.declared.name.Who.TheVariants.{A, B}
use Rattle.ot_questions.specs.declared.place.Place.{Place}
use Rattle.ot_questions.specs.declared.why.Why.TheVariants.{Undefined}
use Rattle.ot_questions.specs.Places.{place, sym_op}
use Rattle.ot_questions.specs.Reading.{base_cell, put_cell, buried_cell, cells_cause}
use Rattle.ot_terms.specs.Forms.{FormTree, True, Le, Lt, Eq, Or, Not}
use Rattle.ot_terms.specs.Goals.{Holds, Fails, If, laid_form}
use Rattle.ot_terms.specs.Placing.{guard_form}
use Rattle.ot_rewrite.specs.Splits.{Yes, No, Ask, split_of}
use Rattle.ot_rewrite.specs.Table.{same_finished}

abbrev x : Place
x = place 3 (pos 0)

abbrev y : Place
y = place 6 (pos 2)

abbrev never : FormTree
never = Not True

-- less asks whether the one place is at most the place before the other one
less : split_of (Lt x y) ≡ Ask x (place 6 (pos 1)) True never
less = refl

-- of one name nothing is asked
itself : split_of (Eq x x) ≡ Yes
itself = refl

not_itself : split_of (Not (Eq x x)) ≡ No
not_itself = refl

-- two different names are equal, or the first is behind the second: what is left behind the first answer
either : split_of (Or (Eq x y) (Lt y x)) ≡ Ask x y (Or (Le y x) (Lt y x)) (Or never (Lt y x))
either = refl

abbrev one : Finished
one = base_cell (pos 1)

-- a cell is itself, and not what it is as a tombstone
same_cell : same_finished one one ≡ Holds
same_cell = refl

buried : same_finished one (buried_cell one) ≡ Fails (cells_cause one (buried_cell one))
buried = refl

-- the names of two characters are compared
characters :
    same_finished (put_cell 4) (put_cell 7)
    ≡ If (Eq (place 4 (pos 0)) (place 7 (pos 0))) Holds (Fails (cells_cause (put_cell 4) (put_cell 7)))
characters = refl

-- the position of the first operation is less than that of the second one
abbrev before : Formula
before = Compare (record { sort = Pos; left = First; cmp = comparisons.Lt; k = pos 0 })

-- that is one question, whether it is at most the position before the other one
one_question :
    laid_form (guard_form before (sym_op Del A) (sym_op Del B)) Holds (Fails Undefined)
    ≡ If (Le (place 3 (pos 0)) (place 6 (negsuc 0))) Holds (Fails Undefined)
one_question = refl
