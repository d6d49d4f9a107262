use Rattle.ot_model.proofs.Lengths.{length-document_after}
use Rattle.ot_model.proofs.laws.documents_grow_by_one_cell_at_most.Goals as goal

pub returns : goal.returns
returns c = length-document_after
