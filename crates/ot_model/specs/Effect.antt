-- Which operations are enabled on a document, and the document after an operation.
use Rattle.std.specs.Prelude.{ℕ, pos, ◌≤ℤ◌, ◌<ℤ◌, List, [], ◌∷◌, take, drop, map, unsigned_abs, Bool, true, ◌&&◌}
use Rattle.std.specs.Prelude.{int_le, int_lt}
use Rattle.ot_model.specs.declared.cell.Cell.{Cell}
use Rattle.ot_model.specs.declared.op.Mode.{Mode}
use Rattle.ot_model.specs.declared.op.Mode.TheVariants.{Plain, Tomb}
use Rattle.ot_model.specs.declared.op.Op.{Op}
use Rattle.ot_model.specs.declared.op.Op.TheVariants.{Ins, Del, Upd, Nop}
use Rattle.ot_model.specs.Cells.{live_cell, dead_cell, cell_with, with_cells}

-- the operation may be applied to a document of so many cells: an insertion also at the end, a
-- deletion and an update only where a cell is, nop always
abbrev pub IsEnabled : Op → ℕ → Type 0
IsEnabled (Ins at ch site) n = (pos 0 ≤ℤ at) × (at ≤ℤ pos n)
IsEnabled (Del at site) n = (pos 0 ≤ℤ at) × (at <ℤ pos n)
IsEnabled (Upd at ch site) n = (pos 0 ≤ℤ at) × (at <ℤ pos n)
IsEnabled Nop n = Unit {0}

-- the same as a test
abbrev pub is_enabled : Op → ℕ → Bool
is_enabled (Ins at ch site) n = int_le (pos 0) at && int_le at (pos n)
is_enabled (Del at site) n = int_le (pos 0) at && int_lt at (pos n)
is_enabled (Upd at ch site) n = int_le (pos 0) at && int_lt at (pos n)
is_enabled Nop n = true

-- what the mode leaves of the cells that a deletion meets
abbrev pub remains_of : Mode → List Cell → List Cell
remains_of Plain cells = []
remains_of Tomb cells = map dead_cell cells

-- the document after an operation that is enabled on it
abbrev pub document_after : Mode → Op → List Cell → List Cell
document_after mode (Ins at ch site) doc = with_cells (unsigned_abs at) 0 (live_cell ch ∷ []) doc
document_after mode (Del at site) doc =
    with_cells (unsigned_abs at) 1 (remains_of mode (take 1 (drop (unsigned_abs at) doc))) doc
document_after mode (Upd at ch site) doc =
    with_cells (unsigned_abs at) 1 (map (cell_with ch) (take 1 (drop (unsigned_abs at) doc))) doc
document_after mode Nop doc = doc
