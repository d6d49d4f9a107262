-- What documents and cells of terms are at a valuation, over a base document that is plain data. Characters
-- are integers here, since the names of characters stand for integers.
use Rattle.std.specs.Prelude.{ℕ, ℤ, pos, negsuc, ◌+ℤ◌, Bool, true, false, if◌then◌else◌, int_lt, List, [], ◌∷◌}
use Rattle.std.specs.Ordering.{int_eq}
use Rattle.ot_questions.specs.Places.{integer_at}
use Rattle.ot_terms.specs.Forms.{form_holds}
use Rattle.ot_terms.specs.Documents.{DocTree, Base, Put, Cut, Mark, Over}
use Rattle.ot_terms.specs.Cells as cells
use Rattle.ot_terms.specs.Cells.{CellTree}

-- a cell whose character is an integer
pub record IntegerCell : Type 0 where
  pub ch : ℤ
  pub live : Bool

-- a document that has these cells at these numbers, the first one where a number comes twice, and one
-- cell at every other number
pub record BaseDocument : Type 0 where
  pub placed : List (ℤ × IntegerCell)
  pub elsewhere : IntegerCell

-- the cell at a number, among cells at numbers, and another one where none of them is there
abbrev pub cell_among : List (ℤ × IntegerCell) → IntegerCell → ℤ → IntegerCell
cell_among [] other j = other
cell_among (c ∷ cs) other j = if int_eq c.0 j then c.1 else cell_among cs other j

abbrev pub base_cell_at : BaseDocument → ℤ → IntegerCell
base_cell_at d j = cell_among d.placed d.elsewhere j

abbrev pub char_cell : ℤ → IntegerCell
char_cell c = record { ch = c; live = true }

abbrev pub killed : IntegerCell → IntegerCell
killed cell = record { ch = cell.ch; live = false }

abbrev pub rewritten_cell : ℤ → IntegerCell → IntegerCell
rewritten_cell c cell = record { ch = c; live = cell.live }

-- before a place, at it, and behind it
abbrev pub by_place : {X : Type 0} → ℤ → ℤ → X → X → X → X
by_place j p before at behind = if int_lt j p then before else (if int_eq j p then at else behind)

-- the cell of a document at a number
abbrev pub cell_of_doc : BaseDocument → (ℕ → ℤ) → DocTree → ℤ → IntegerCell
cell_of_doc base v Base j = base_cell_at base j
cell_of_doc base v (Put d at ch) j =
    by_place j (integer_at v at) (cell_of_doc base v d j) (char_cell (v ch)) (cell_of_doc base v d (j +ℤ negsuc 0))
cell_of_doc base v (Cut d at) j =
    if int_lt j (integer_at v at) then cell_of_doc base v d j else cell_of_doc base v d (j +ℤ pos 1)
cell_of_doc base v (Mark d at) j =
    by_place j (integer_at v at) (cell_of_doc base v d j) (killed (cell_of_doc base v d j)) (cell_of_doc base v d j)
cell_of_doc base v (Over d at ch) j =
    by_place j (integer_at v at) (cell_of_doc base v d j) (rewritten_cell (v ch) (cell_of_doc base v d j))
    (cell_of_doc base v d j)

-- the cell that a term is
abbrev pub cell_of : BaseDocument → (ℕ → ℤ) → CellTree → IntegerCell
cell_of base v (cells.At d at) = cell_of_doc base v d (integer_at v at)
cell_of base v (cells.Char ch) = char_cell (v ch)
cell_of base v (cells.Dead cell) = killed (cell_of base v cell)
cell_of base v (cells.Over ch cell) = rewritten_cell (v ch) (cell_of base v cell)
cell_of base v (cells.If g on_yes on_no) = if form_holds v g then cell_of base v on_yes else cell_of base v on_no
