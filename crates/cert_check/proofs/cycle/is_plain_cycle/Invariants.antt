use Rattle.std.proofs.Common.{◌≡◌, ◌+◌, ◌*◌, ◌^◌, ◌<◌, pos, neg_ℤ, ◌≤ℤ◌, Ok, length, drop}
use Rattle.diff_graph.specs.Cycles.{pick_verdict}
use Rattle.cert_check.specs.Walks.{Closes}
use Rattle.cert_check.proofs.cycle.is_plain_cycle.Given as goal

-- where the picks that are still to come close the cycle, all of them are one
abbrev pub invariant-loop-pick : goal.invariant-loop-pick
invariant-loop-pick l =
    (Closes l.lits l.name l.start l.sum (drop l.pick-index l.rest) → pick_verdict l.lits l.picks ≡ Ok tt)
    × (neg_ℤ (pos (2 ^ 31 * (l.pick-index + 1))) ≤ℤ l.sum) × (l.sum ≤ℤ pos (2 ^ 31 * (l.pick-index + 1)))
    × (length l.rest < 12)
