use Rattle.std.proofs.Common.{◌≡◌}
use Rattle.std.specs.List.{flat_map, range_with_len}
use Rattle.ot_drill.specs.Events.{makes_in}
use Rattle.ot_drill.proofs.event.makes.Given as goal

-- the rounds before this one are made
abbrev pub invariant-loop-round : goal.invariant-loop-round
invariant-loop-round l = l.events.items ≡ flat_map makes_in (range_with_len 0 l.round)
