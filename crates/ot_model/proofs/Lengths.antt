-- How long a document is after an operation.
use Rattle.std.proofs.Common.{◌+◌, ◌≤◌, List, length, arith, length-append, length-drop, length-take}
use Rattle.std.proofs.lemmas.List.{length-map}
use Rattle.ot_model.specs.declared.cell.Cell.{Cell}
use Rattle.ot_model.specs.declared.op.Mode.{Mode}
use Rattle.ot_model.specs.declared.op.Mode.TheVariants.{Plain, Tomb}
use Rattle.ot_model.specs.declared.op.Op.{Op}
use Rattle.ot_model.specs.declared.op.Op.TheVariants.{Ins, Del, Upd, Nop}
use Rattle.ot_model.specs.Effect.{document_after}

-- an operation makes a document longer by at most one cell
pub length-document_after : (mode : Mode) (o : Op) (d : List Cell) → length (document_after mode o d) ≤ length d + 1
length-document_after mode (Ins at ch site) d = simp (length-append, length-take, length-drop) (omega arith)
length-document_after Plain (Del at site) d = simp (length-append, length-take, length-drop) (omega arith)
length-document_after Tomb (Del at site) d = simp (length-append, length-map, length-take, length-drop) (omega arith)
length-document_after mode (Upd at ch site) d = simp (length-append, length-map, length-take, length-drop) (omega arith)
length-document_after mode Nop d = omega arith
