-- The first place at which two documents differ.
use Rattle.std.specs.Prelude.{ℕ, ◌+◌, Bool, nat_eq, not, ◌&&◌, if◌then◌else◌, List, [], ◌∷◌, Option, Some, None}
use Rattle.ot_model.specs.declared.cell.Cell.{Cell}

-- the two are the same truth value
abbrev pub is_same_flag : Bool → Bool → Bool
is_same_flag x y = if x then y else not y

-- the two cells have the same character and are both live or both dead
abbrev pub is_same_cell : Cell → Cell → Bool
is_same_cell c e = nat_eq c.ch e.ch && is_same_flag c.live e.live

-- the first place at which they differ, where the first cells have place `i`: also that at which one has ended
abbrev pub difference_from : ℕ → List Cell → List Cell → Option ℕ
difference_from i [] [] = None
difference_from i [] (e ∷ es) = Some i
difference_from i (c ∷ cs) [] = Some i
difference_from i (c ∷ cs) (e ∷ es) = if is_same_cell c e then difference_from (i + 1) cs es else Some i

-- the first place at which two documents differ
abbrev pub difference_of : List Cell → List Cell → Option ℕ
difference_of left right = difference_from 0 left right

-- the document, where there is no such place
abbrev pub document_without : Option ℕ → List Cell → Option (List Cell)
document_without None d = Some d
document_without (Some place) d = None

-- the one document that two are
abbrev pub one_document : List Cell → List Cell → Option (List Cell)
one_document left right = document_without (difference_of left right) left
