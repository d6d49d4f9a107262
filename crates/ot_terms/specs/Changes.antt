-- What an operation makes of a document.
use Rattle.std.specs.Prelude.{List, [], ◌∷◌}
use Rattle.ot_model.specs.declared.op.Mode.{Mode}
use Rattle.ot_model.specs.declared.op.Mode.TheVariants.{Plain, Tomb}
use Rattle.ot_questions.specs.declared.place.SymOp.{SymOp}
use Rattle.ot_questions.specs.declared.place.SymOp.TheVariants.{Ins, Del, Upd, Nop}
use Rattle.ot_terms.specs.Documents.{DocTree, Base, Put, Cut, Mark, Over}

-- the document behind an operation
abbrev pub changed : Mode → SymOp → DocTree → DocTree
changed mode (Ins at ch site) d = Put d at ch
changed Plain (Del at site) d = Cut d at
changed Tomb (Del at site) d = Mark d at
changed mode (Upd at ch site) d = Over d at ch
changed mode Nop d = d

-- the document that the operations make of the one that both ways come from, the last one first
abbrev pub doc_of : Mode → List SymOp → DocTree
doc_of mode [] = Base
doc_of mode (o ∷ os) = changed mode o (doc_of mode os)
