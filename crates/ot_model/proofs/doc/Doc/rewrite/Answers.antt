use Rattle.ot_model.proofs.Cells.{take-one}
use Rattle.ot_model.proofs.doc.Doc.rewrite.Goals as goal

pub returns : goal.returns
returns c = rw (take-one c.args.self.now c.args.at c.cell-live.result c.cell-live.ensures) c.replace.ensures
