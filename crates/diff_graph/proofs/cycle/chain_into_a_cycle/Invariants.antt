use Rattle.std.proofs.Common.{◌≡◌, drop}
use Rattle.diff_graph.specs.Cycles.{is_walk, named_by}
use Rattle.diff_graph.proofs.cycle.chain_into_a_cycle.Given as goal

abbrev pub invariant-loop-pick : goal.invariant-loop-pick
invariant-loop-pick l =
    is_walk l.name (named_by l.lits (drop l.pick-index l.picks)) l.first
    ≡ is_walk l.first (named_by l.lits l.picks) l.first
