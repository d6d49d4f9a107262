use Rattle.std.proofs.Common.{◌≡◌, ◌++◌, ◌-◌, map}
use Rattle.std.specs.List.{range_with_len}
use Rattle.case_json.specs.declared.script.Event.TheVariants.{Make}
use Rattle.ot_drill.specs.Events.{round_operation}
use Rattle.ot_drill.proofs.event.push_round.Given as goal

-- the sites before this one have made their operations
abbrev pub invariant-loop-site : goal.invariant-loop-site
invariant-loop-site l =
    l.events.items ≡ l.initial.events.items
    ++ map (λ s. Make s (round_operation l.round s)) (range_with_len 1 (l.site - 1))
