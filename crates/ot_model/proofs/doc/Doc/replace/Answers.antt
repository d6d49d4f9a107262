use Rattle.std.proofs.Common.{◌∙◌}
use Rattle.ot_model.proofs.Cells.{slice_set-with_cells}
use Rattle.ot_model.proofs.doc.Doc.replace.Goals as goal

pub returns : goal.returns
returns c =
    let cells = c.self.inside.cells in
    c.set.ensures
    ∙ rw (← c.self.view_is) (slice_set-with_cells cells c.args.at c.args.cell (rw c.self.view_is c.requires))
