-- Rows of a new table.
use Rattle.std.proofs.Common.{◌≡◌, ℕ, ◌<◌, ◌≤◌, List, [], length, get_or, Option}
use Rattle.diff_tables.specs.declared.hop.Hop.{Hop}
use Rattle.diff_tables.specs.Steps.{IsNewRow}

-- the rows below a place are new, and from there on they keep nothing
pub record AreBegun (initial rows : List (List (Option Hop))) (place : ℕ) : Type 0 where
  pub len : length rows ≡ length initial
  pub done : (y : ℕ) → y < place → IsNewRow (length initial) y (get_or rows y [])
  pub left : (y : ℕ) → place ≤ y → get_or rows y [] ≡ get_or initial y []
