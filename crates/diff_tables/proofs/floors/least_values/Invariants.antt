use Rattle.std.proofs.Common.{◌≡◌, ℕ, ◌<◌, pos, length, get_or}
use Rattle.diff_tables.specs.Tables.{kept_of}
use Rattle.diff_tables.specs.Solutions.{least_of}
use Rattle.diff_tables.proofs.floors.least_values.Given as goal

abbrev pub invariant-loop-x : goal.invariant-loop-x
invariant-loop-x l =
    (length l.values.items ≡ l.x)
    × ((y : ℕ) → y < l.x → get_or l.values.items y (pos 0) ≡ least_of (kept_of l.rows 0 y))
