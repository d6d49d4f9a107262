-- One step in reading a cell.
use Rattle.std.specs.Prelude.{pos, negsuc, ℕ, Option, Some, None, option_map}
use Rattle.std.specs.Option.{option_or}
use Rattle.ot_questions.specs.declared.cell.Finished.{Finished}
use Rattle.ot_questions.specs.declared.place.Place.{Place}
use Rattle.ot_questions.specs.Nears.{IsNear}
use Rattle.ot_questions.specs.Places.{plus}
use Rattle.ot_questions.specs.Reading.{base_cell, put_cell, buried_cell, replaced_cell}
use Rattle.ot_terms.specs.Forms.{Le, Lt}
use Rattle.ot_terms.specs.Documents as documents
use Rattle.ot_terms.specs.Documents.{DocTree}
use Rattle.ot_terms.specs.Cells.{CellTree, At, Char, Dead, Over, If}

-- the place at which the cell is read is near the index
abbrev pub IsReadable : CellTree → Type 0
IsReadable (At d at) = IsNear 999 at.off
IsReadable (Char ch) = Unit {0}
IsReadable (Dead cell) = IsReadable cell
IsReadable (Over ch cell) = IsReadable cell
IsReadable (If g on_yes on_no) = Unit {0}

-- the cell of a document at a place, by its last change; the base document has no change
abbrev pub read_change : DocTree → Place → Option CellTree
read_change documents.Base j = None
read_change (documents.Put d at ch) j = Some (If (Lt j at) (At d j) (If (Le j at) (Char ch) (At d (plus j (negsuc 0)))))
read_change (documents.Cut d at) j = Some (If (Lt j at) (At d j) (At d (plus j (pos 1))))
read_change (documents.Mark d at) j = Some (If (Lt j at) (At d j) (If (Le j at) (Dead (At d j)) (At d j)))
read_change (documents.Over d at ch) j = Some (If (Lt j at) (At d j) (If (Le j at) (Over ch (At d j)) (At d j)))

-- a dead cell, by the cell that it was, which is read as far as it goes
abbrev pub bury : CellTree → Option CellTree
bury (At d at) = None
bury (Char ch) = None
bury (Dead cell) = Some (Dead cell)
bury (Over ch cell) = Some (Dead (Char ch))
bury (If g on_yes on_no) = Some (If g (Dead on_yes) (Dead on_no))

-- a cell with another character, by the cell that it was, which is read as far as it goes
abbrev pub replace : ℕ → CellTree → Option CellTree
replace ch (At d at) = None
replace ch (Char other) = Some (Char ch)
replace ch (Dead cell) = Some (Dead (Char ch))
replace ch (Over other cell) = Some (Over ch cell)
replace ch (If g on_yes on_no) = Some (If g (Over ch on_yes) (Over ch on_no))

-- one step in reading a cell, from the inside; none where it is finished or a question comes first
unfoldable pub read_step : CellTree → Option CellTree
read_step (At d at) = read_change d at
read_step (Char ch) = None
read_step (Dead cell) = option_or (option_map Dead (read_step cell)) (bury cell)
read_step (Over ch cell) = option_or (option_map (Over ch) (read_step cell)) (replace ch cell)
read_step (If g on_yes on_no) = None

-- what a cell is made of where no step is left
abbrev pub finished_cell : CellTree → Option Finished
finished_cell (At documents.Base at) = Some (base_cell at.off)
finished_cell (At (documents.Put d at ch) j) = None
finished_cell (At (documents.Cut d at) j) = None
finished_cell (At (documents.Mark d at) j) = None
finished_cell (At (documents.Over d at ch) j) = None
finished_cell (Char ch) = Some (put_cell ch)
finished_cell (Dead cell) = option_map buried_cell (finished_cell cell)
finished_cell (Over ch cell) = option_map (replaced_cell ch) (finished_cell cell)
finished_cell (If g on_yes on_no) = None
