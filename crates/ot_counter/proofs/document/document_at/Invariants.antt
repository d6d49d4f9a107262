use Rattle.std.proofs.Common.{◌≡◌}
use Rattle.ot_counter.specs.Documents.{cells_by_place, shown_cell}
use Rattle.ot_counter.proofs.document.document_at.Given as goal

abbrev pub invariant-loop-place : goal.invariant-loop-place
invariant-loop-place l = l.doc ≡ cells_by_place l.place (shown_cell l.index l.why)
