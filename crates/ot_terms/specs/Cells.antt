-- Cells of terms as plain trees.
use Rattle.std.specs.Prelude.{ℕ}
use Rattle.ot_questions.specs.declared.place.Place.{Place}
use Rattle.ot_terms.specs.declared.cell.CellT.{CellT}
use Rattle.ot_terms.specs.declared.cell.CellT.TheVariants as rust
use Rattle.ot_terms.specs.Forms.{FormTree, form_tree}
use Rattle.ot_terms.specs.Documents.{DocTree, doc_tree}

-- a cell as a plain tree
pub data CellTree : Type 0 where
  At : DocTree → Place → CellTree
  Char : ℕ → CellTree
  Dead : CellTree → CellTree
  Over : ℕ → CellTree → CellTree
  If : FormTree → CellTree → CellTree → CellTree

-- the plain tree that a cell stands for
abbrev pub cell_tree : CellT → CellTree
cell_tree (rust.At d at) = At (doc_tree d.now) at
cell_tree (rust.Char ch) = Char ch
cell_tree (rust.Dead' p cell) = Dead (cell_tree cell)
cell_tree (rust.Over' ch p cell) = Over ch (cell_tree cell)
cell_tree (rust.If' g p on_yes q on_no) = If (form_tree g.now) (cell_tree on_yes) (cell_tree on_no)
