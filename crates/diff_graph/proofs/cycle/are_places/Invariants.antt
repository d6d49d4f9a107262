use Rattle.std.proofs.Common.{ℕ, ◌<◌, length, get_or}
use Rattle.diff_graph.proofs.cycle.are_places.Given as goal

abbrev pub invariant-loop-pick : goal.invariant-loop-pick
invariant-loop-pick l = (i : ℕ) → i < l.pick-index → get_or l.picks i 0 < length l.lits
