use Rattle.std.proofs.Common.{◌≡◌, ℕ, ◌<◌, ◌-ℤ◌, pos, length, get_or}
use Rattle.diff_tables.specs.Tables.{kept_of}
use Rattle.diff_tables.specs.Steps.{value_in}
use Rattle.diff_tables.proofs.solver.values_of.Given as goal

abbrev pub invariant-loop-x : goal.invariant-loop-x
invariant-loop-x l =
    (length l.values.items ≡ l.x)
    × ((y : ℕ) → y < l.x → get_or l.values.items y (pos 0)
    ≡ value_in (length l.rows) (kept_of l.rows) y -ℤ value_in (length l.rows) (kept_of l.rows) 0)
