-- Cells that are read as far as they go.
use Rattle.std.specs.Prelude.{◌≡◌, Bool, true, false, None}
use Rattle.ot_terms.specs.Cells.{CellTree, At, Char, Dead, Over, If}
use Rattle.cell_rules.specs.Cells.{read_step}

-- whether a cell is one of two, by a form
abbrev pub is_parted : CellTree → Bool
is_parted (At d at) = false
is_parted (Char ch) = false
is_parted (Dead cell) = false
is_parted (Over ch cell) = false
is_parted (If g on_yes on_no) = true

-- no step is left in reading the cell, and no question comes before it
abbrev pub IsRead : CellTree → Type 0
IsRead cell = (read_step cell ≡ None) × (is_parted cell ≡ false)
