-- Cells, and the one edit of a list of cells that every operation is.
use Rattle.std.specs.Prelude.{ℕ, ◌+◌, true, false, List, ◌++◌, take, drop}
use Rattle.ot_model.specs.declared.cell.Cell.{Cell}

-- a character that is shown
abbrev pub live_cell : ℕ → Cell
live_cell ch = record { ch = ch; live = true }

-- the tombstone of a cell: it keeps the character
abbrev pub dead_cell : Cell → Cell
dead_cell cell = record { ch = cell.ch; live = false }

-- the cell with another character: it stays live or dead, as it is
abbrev pub cell_with : ℕ → Cell → Cell
cell_with ch cell = record { ch = ch; live = cell.live }

-- the document whose `count` cells at place `at` are replaced by these cells
abbrev pub with_cells : ℕ → ℕ → List Cell → List Cell → List Cell
with_cells at count cells doc = take at doc ++ cells ++ drop (at + count) doc
