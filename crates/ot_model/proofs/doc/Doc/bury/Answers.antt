use Rattle.ot_model.proofs.Cells.{take-one}
use Rattle.ot_model.proofs.doc.Doc.bury.Goals as goal

pub returns : goal.returns
returns c = rw (take-one c.args.self.now c.args.at c.cell-ch.result c.cell-ch.ensures) c.replace.ensures
