use Rattle.ot_session.specs.Views.{view_of}
use Rattle.ot_drill.proofs.InPlay.{InPlay}
use Rattle.ot_drill.proofs.playing.play_all.Given as goal

-- the events before this one were done
abbrev pub invariant-loop-event : goal.invariant-loop-event
invariant-loop-event l = InPlay (view_of l.fn.session) (view_of l.session) l.tally l.events l.event-index
