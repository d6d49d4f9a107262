-- Reading and comparing cells by the rules, computed on small terms.
use Rattle.std.proofs.Common.{◌≡◌, pos, negsuc, Some, None, refl}
use Rattle.fn_rules.specs.Shipped.{ties}
use Rattle.ot_questions.specs.Places.{place, index_and}
use Rattle.ot_questions.specs.declared.why.Why.TheVariants.{Cells}
use Rattle.ot_terms.specs.Forms as forms
use Rattle.ot_terms.specs.Documents as documents
use Rattle.ot_terms.specs.Cells.{CellTree, At, Char, Dead, Over, If}
use Rattle.ot_terms.specs.Goals as goals
use Rattle.cell_rules.specs.Cells.{read_step}
use Rattle.ot_rewrite.specs.Table.{rewritten}

abbrev base_here : CellTree
base_here = At documents.Base (index_and (pos 0))

-- the character 5 inserted at name 3, into a document of which name 6 was written over with 8
abbrev written : documents.DocTree
written = documents.Over documents.Base (place 6 (pos 0)) 8

abbrev put : documents.DocTree
put = documents.Put written (place 3 (pos 0)) 5

-- behind the insertion the index is lower by one
read_put :
    read_step (At put (index_and (pos 0)))
    ≡ Some
    (If (forms.Lt (index_and (pos 0)) (place 3 (pos 0))) (At written (index_and (pos 0)))
    (If (forms.Le (index_and (pos 0)) (place 3 (pos 0))) (Char 5) (At written (index_and (negsuc 0)))))
unfolding read_step
read_put = refl

-- before an insertion, the cell of the document below; at the place of its update, with another character
read_written :
    read_step (At written (index_and (negsuc 0)))
    ≡ Some
    (If (forms.Lt (index_and (negsuc 0)) (place 6 (pos 0))) (At documents.Base (index_and (negsuc 0)))
    (If (forms.Le (index_and (negsuc 0)) (place 6 (pos 0))) (Over 8 (At documents.Base (index_and (negsuc 0))))
    (At documents.Base (index_and (negsuc 0)))))
unfolding read_step
read_written = refl

-- behind a deletion that leaves a gap, the index is higher by one
read_cut :
    read_step (At (documents.Cut documents.Base (place 3 (pos 0))) (index_and (pos 0)))
    ≡ Some (If (forms.Lt (index_and (pos 0)) (place 3 (pos 0))) base_here (At documents.Base (index_and (pos 1))))
unfolding read_step
read_cut = refl

-- one that leaves a tombstone makes the cell dead, and moves nothing
read_mark :
    read_step (At (documents.Mark documents.Base (place 3 (pos 0))) (index_and (pos 0)))
    ≡ Some
    (If (forms.Lt (index_and (pos 0)) (place 3 (pos 0))) base_here
    (If (forms.Le (index_and (pos 0)) (place 3 (pos 0))) (Dead base_here) base_here))
unfolding read_step
read_mark = refl

-- a dead cell forgets which character was written over, once what lies below is read
dead_over : read_step (Dead (Over 5 base_here)) ≡ Some (Dead (Char 5))
unfolding read_step
dead_over = refl

-- and not before: the inside is read first
dead_over_unread :
    read_step (Dead (Over 5 (Over 6 base_here))) ≡ Some (Dead (Over 5 base_here))
unfolding read_step
dead_over_unread = refl

over_char : read_step (Over 5 (Char 6)) ≡ Some (Char 5)
unfolding read_step
over_char = refl

over_dead : read_step (Over 5 (Dead (Char 6))) ≡ Some (Dead (Char 5))
unfolding read_step
over_dead = refl

-- these are finished
base_ends : read_step base_here ≡ None
unfolding read_step
base_ends = refl

dead_ends : read_step (Dead (Char 6)) ≡ None
unfolding read_step
dead_ends = refl

over_ends : read_step (Over 5 base_here) ≡ None
unfolding read_step
over_ends = refl

-- a question inside comes out, with the cell on both sides
over_question :
    read_step (Over 5 (If forms.True base_here (Char 6))) ≡ Some (If forms.True (Over 5 base_here) (Over 5 (Char 6)))
unfolding read_step
over_question = refl

-- two characters are compared by their names' integers, two cells of one base cell hold
chars_compared :
    rewritten ties (goals.Same (Char 5) (Char 8))
    ≡ Some (goals.If (forms.Eq (place 5 (pos 0)) (place 8 (pos 0))) goals.Holds (goals.Fails (Cells None None)))
unfolding rewritten read_step
chars_compared = refl

base_compared : rewritten ties (goals.Same base_here base_here) ≡ Some goals.Holds
unfolding rewritten read_step
base_compared = refl

-- the left cell is read before the right one
left_first : rewritten ties (goals.Same (Over 5 (Char 6)) (Over 5 (Char 8)))
    ≡ Some (goals.Same (Char 5) (Over 5 (Char 8)))
unfolding rewritten read_step
left_first = refl
