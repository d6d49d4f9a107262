use Rattle.ot_drill.specs.Events.{makes_in}
use Rattle.ot_drill.proofs.Ranges.{next_items}
use Rattle.ot_drill.proofs.event.makes.Goals as goal

pub loop-round-preserved : goal.loop-round-preserved
loop-round-preserved c =
    next_items makes_in c.loop-round.events.items c.push_round.new.events.items c.loop-round.round
    c.loop-round.invariant c.in_ok-push_round.ensures
