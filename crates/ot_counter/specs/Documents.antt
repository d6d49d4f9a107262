-- The document that shows a cause, which is read off the values of a counterexample.
use Rattle.std.specs.Prelude.{ℕ, zero, suc, ℤ, pos, ◌+ℤ◌, Bool, false, not, if◌then◌else◌, List, [], ◌∷◌, Option, Some}
use Rattle.std.specs.Prelude.{None, unsigned_abs}
use Rattle.std.specs.Ordering.{int_eq}
use Rattle.ot_model.specs.declared.cell.Cell.{Cell}
use Rattle.ot_model.specs.Cells.{live_cell}
use Rattle.ot_questions.specs.declared.why.Why.{Why}
use Rattle.ot_questions.specs.declared.why.Why.TheVariants.{Undefined, OutOfRange, Lengths, Cells, Operations}
use Rattle.ot_questions.specs.Names.{length_name, index_name}

-- the place is at the offset from the index
abbrev pub is_at : ℤ → Option ℤ → ℕ → Bool
is_at i None t = false
is_at i (Some off) t = int_eq (pos t) (i +ℤ off)

-- a cell `y` that is live, but where the cause names cells: the one that the left side reads is `x` and
-- not `y`, and the one that is to be dead is dead
abbrev pub shown_cell : ℤ → Why → ℕ → Cell
shown_cell i (Cells left dead) t = record { ch = if is_at i left t then 120 else 121; live = not (is_at i dead t) }
shown_cell i Undefined t = live_cell 121
shown_cell i OutOfRange t = live_cell 121
shown_cell i Lengths t = live_cell 121
shown_cell i Operations t = live_cell 121

-- so many cells, which are given by their places
abbrev pub cells_by_place : ℕ → (ℕ → Cell) → List Cell
cells_by_place zero cell = []
cells_by_place (suc n) cell = cell 0 ∷ cells_by_place n (λ t. cell (suc t))

-- the document on which the operations show the cause
abbrev pub document_at : (ℕ → ℤ) → Why → List Cell
document_at v why = cells_by_place (unsigned_abs (v length_name)) (shown_cell (v index_name) why)
