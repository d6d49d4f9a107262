-- Documents of terms as plain trees.
use Rattle.std.specs.Prelude.{ℕ}
use Rattle.ot_questions.specs.declared.place.Place.{Place}
use Rattle.ot_terms.specs.declared.document.DocT.{DocT}
use Rattle.ot_terms.specs.declared.document.DocT.TheVariants as rust

-- a document as a plain tree: the changes that made it, the last one first
pub data DocTree : Type 0 where
  Base : DocTree
  Put : DocTree → Place → ℕ → DocTree
  Cut : DocTree → Place → DocTree
  Mark : DocTree → Place → DocTree
  Over : DocTree → Place → ℕ → DocTree

-- the plain tree that a document stands for
abbrev pub doc_tree : DocT → DocTree
doc_tree rust.Base = Base
doc_tree (rust.Put' p d at ch) = Put (doc_tree d) at ch
doc_tree (rust.Cut' p d at) = Cut (doc_tree d) at
doc_tree (rust.Mark' p d at) = Mark (doc_tree d) at
doc_tree (rust.Over' p d at ch) = Over (doc_tree d) at ch
