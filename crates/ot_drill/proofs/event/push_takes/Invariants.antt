use Rattle.std.proofs.Common.{◌≡◌, ◌++◌, take}
use Rattle.ot_drill.specs.Events.{takes_of}
use Rattle.ot_drill.proofs.event.push_takes.Given as goal

-- the operations before this one are taken
abbrev pub invariant-loop-number : goal.invariant-loop-number
invariant-loop-number l =
    l.events.items ≡ l.initial.events.items ++ takes_of l.site (take l.number-index l.numbers)
