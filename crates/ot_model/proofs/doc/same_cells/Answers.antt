use Rattle.std.proofs.lemmas.Slice.Eq.{slice_eq-Decides}
use Rattle.ot_model.proofs.Cells.{cell_eq-Decides}
use Rattle.ot_model.proofs.doc.same_cells.Goals as goal

pub returns : goal.returns
returns c = slice_eq-Decides cell_eq-Decides _ _ _ c.eq.ensures
