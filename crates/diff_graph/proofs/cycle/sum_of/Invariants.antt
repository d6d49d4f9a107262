use Rattle.std.proofs.Common.{◌≡◌, ◌*◌, ◌^◌, pos, neg_ℤ, ◌+ℤ◌, ◌≤ℤ◌, drop}
use Rattle.diff_graph.specs.Cycles.{weight, named_by}
use Rattle.diff_graph.proofs.cycle.sum_of.Given as goal

abbrev pub invariant-loop-pick : goal.invariant-loop-pick
invariant-loop-pick l =
    (l.sum +ℤ weight (named_by l.lits (drop l.pick-index l.picks)) ≡ weight (named_by l.lits l.picks))
    × (neg_ℤ (pos (2 ^ 31 * l.pick-index)) ≤ℤ l.sum) × (l.sum ≤ℤ pos (2 ^ 31 * l.pick-index))
