use Rattle.ot_counter.proofs.Shown.{placed-next}
use Rattle.ot_counter.proofs.document.document_at.Goals as goal

pub loop-place-preserved : goal.loop-place-preserved
loop-place-preserved c = placed-next _ _ _ _ _ c.loop-place.invariant c.shown_cell.ensures c.in_ok-push.ensures.ok
