use Rattle.std.specs.Prelude.{◌≡◌, ◌+◌, ◌≤◌, length, map, reverse, drop, ◌++◌, vec_len, vec_capacity}
use Rattle.open_places.specs.Parts.{cycle_part}
use Rattle.open_places.proofs.places.wait_for_cycles.Given as goal

abbrev pub invariant-loop-left : goal.invariant-loop-left
invariant-loop-left g l =
    (l.left ≤ length l.literals)
    × (vec_len l.waiting + l.left ≤ vec_capacity l.waiting)
    × (reverse l.waiting.items ≡ map (cycle_part l.depth) (drop l.left l.literals) ++ reverse l.initial.waiting.items)

abbrev pub decreases-loop-left : goal.decreases-loop-left
decreases-loop-left g l = l.left
