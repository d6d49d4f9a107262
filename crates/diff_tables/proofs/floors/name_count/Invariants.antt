use Rattle.std.proofs.Common.{ℕ, ◌<◌, ◌≤◌, take}
use Rattle.diff_graph.specs.Limits.{AreNamed}
use Rattle.diff_tables.proofs.floors.name_count.Given as goal

abbrev pub invariant-loop-lit : goal.invariant-loop-lit
invariant-loop-lit l =
    (0 < l.count) × (l.count ≤ 256) × AreNamed l.count (take l.lit-index l.lits)
    × ((n : ℕ) → 0 < n → AreNamed n l.lits → l.count ≤ n)
