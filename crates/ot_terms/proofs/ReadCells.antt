-- Reading a cell at a valuation: the finished cell that it comes to, which is the cell for every base document.
use Rattle.std.proofs.Common.{◌≡◌, ℕ, ℤ, pos, negsuc, ◌+ℤ◌, Bool, true, false, if◌then◌else◌, int_lt, int_le, List, []}
use Rattle.std.proofs.Common.{◌∷◌, refl, ap, sym, ◌∙◌, arith}
use Rattle.std.proofs.lemmas.Int.{ints}
use Rattle.std.specs.Ordering.{int_eq}
use Rattle.ot_model.specs.declared.op.Mode.{Mode}
use Rattle.ot_model.specs.declared.op.Mode.TheVariants.{Plain, Tomb}
use Rattle.ask_core.specs.Plans.{Plan, end_of}
use Rattle.ot_questions.specs.declared.cell.Finished.{Finished}
use Rattle.ot_questions.specs.declared.cell.Flag.{Flag}
use Rattle.ot_questions.specs.declared.cell.Flag.TheVariants as flags
use Rattle.ot_questions.specs.declared.cell.Source.{Source}
use Rattle.ot_questions.specs.declared.cell.Source.TheVariants as sources
use Rattle.ot_questions.specs.declared.place.SymOp.{SymOp}
use Rattle.ot_questions.specs.declared.place.SymOp.TheVariants as ops
use Rattle.ot_questions.specs.declared.why.Why.{Why}
use Rattle.ot_questions.specs.Places.{integer_at}
use Rattle.ot_questions.specs.Reading.{put_cell, buried_cell, replaced_cell}
use Rattle.ot_questions.proofs.Tests.{plus-assoc, if_through}
use Rattle.ot_questions.proofs.Values.{seen, end-cell}
use Rattle.ot_terms.specs.Forms.{form_holds}
use Rattle.ot_terms.specs.Documents as documents
use Rattle.ot_terms.specs.Documents.{DocTree}
use Rattle.ot_terms.specs.Cells as cells
use Rattle.ot_terms.specs.Cells.{CellTree}
use Rattle.ot_terms.specs.Meaning.{IntegerCell, BaseDocument, base_cell_at, char_cell, killed, rewritten_cell, by_place}
use Rattle.ot_terms.specs.Meaning.{cell_of_doc, cell_of}
use Rattle.ot_terms.specs.Changes.{changed, doc_of}
use Rattle.ot_terms.specs.Standing.{changes_of, ask_read}
use Rattle.ot_terms.specs.Belonging.{IsDocOf, IsCellOf}
use Rattle.ot_terms.proofs.Forms.{end_form}

-- the finished cell that a term comes to at a valuation
abbrev pub read_of : (ℕ → ℤ) → Mode → CellTree → Finished
read_of v mode (cells.At d at) = seen v mode (changes_of d) at.off
read_of v mode (cells.Char ch) = put_cell ch
read_of v mode (cells.Dead cell) = buried_cell (read_of v mode cell)
read_of v mode (cells.Over ch cell) = replaced_cell ch (read_of v mode cell)
read_of v mode (cells.If g on_yes on_no) = if form_holds v g then read_of v mode on_yes else read_of v mode on_no

-- reading a cell goes on with the finished cell that it comes to
pub end-read :
    (mode : Mode) (cell : CellTree) (go : Finished → Plan Why) (v : ℕ → ℤ)
    → end_of (ask_read mode cell go) v ≡ end_of (go (read_of v mode cell)) v
unfolding ask_read
end-read mode (cells.At d at) go v = end-cell mode (changes_of d) at.off go v
end-read mode (cells.Char ch) go v = refl
end-read mode (cells.Dead cell) go v = end-read mode cell (λ x. go (buried_cell x)) v
end-read mode (cells.Over ch cell) go v = end-read mode cell (λ x. go (replaced_cell ch x)) v
end-read mode (cells.If g on_yes on_no) go v =
    end_form g (ask_read mode on_yes go) (ask_read mode on_no go) v
    ∙ (ap (λ e. if form_holds v g then e else end_of (ask_read mode on_no go) v) (end-read mode on_yes go v)
    ∙ (ap (λ e. if form_holds v g then end_of (go (read_of v mode on_yes)) v else e) (end-read mode on_no go v)
    ∙ if_through (λ x. end_of (go x) v) (form_holds v g) (read_of v mode on_yes) (read_of v mode on_no)))

at_place : (j p : ℤ) → int_lt j p ≡ false → int_eq j p ≡ int_le j p
at_place j p h = grind (arith, ints)

module _ (base : BaseDocument) (v : ℕ → ℤ) where
  -- the character and the flag that a finished cell has over the base document
  abbrev pub source_at : Source → ℤ
  source_at (sources.Base off) = (base_cell_at base (v 2 +ℤ off)).ch
  source_at (sources.Named c) = v c

  abbrev pub flag_at : Flag → Bool
  flag_at flags.Live = true
  flag_at flags.Dead = false
  flag_at (flags.From off) = (base_cell_at base (v 2 +ℤ off)).live

  abbrev pub finished_at : Finished → IntegerCell
  finished_at x = record { ch = source_at x.source; live = flag_at x.flag }

  -- before a place, at it, and behind it, of numbers: at it is where it is not before and at most
  by_tests :
      (s t u : Bool) (x y z : Finished) → (s ≡ false → t ≡ u)
      → (if s then finished_at x else (if t then finished_at y else finished_at z))
      ≡ finished_at (if s then x else (if u then y else z))
  by_tests true t u x y z h = refl
  by_tests false t u x y z h = ap (λ b. if b then finished_at y else finished_at z) (h refl)
      ∙ if_through finished_at u y z

  by_place-le :
      (j p : ℤ) (x y z : Finished)
      → by_place j p (finished_at x) (finished_at y) (finished_at z)
      ≡ finished_at (if int_lt j p then x else (if int_le j p then y else z))
  by_place-le j p x y z = by_tests (int_lt j p) (int_eq j p) (int_le j p) x y z (at_place j p)

  -- what an operation makes of a document reads as the operation does before those that made the document
  read_changed :
      (mode : Mode) (o : SymOp) (d : DocTree) (os : List SymOp) (off : ℤ)
      → ((k : ℤ) → cell_of_doc base v d (v 2 +ℤ k) ≡ finished_at (seen v mode os k))
      → cell_of_doc base v (changed mode o d) (v 2 +ℤ off) ≡ finished_at (seen v mode (o ∷ os) off)
  read_changed mode (ops.Ins at ch site) d os off h =
      ap (λ x. by_place (v 2 +ℤ off) (integer_at v at) x (char_cell (v ch))
      (cell_of_doc base v d ((v 2 +ℤ off) +ℤ negsuc 0))) (h off)
      ∙ (ap (λ x. by_place (v 2 +ℤ off) (integer_at v at) (finished_at (seen v mode os off)) (char_cell (v ch)) x)
      (ap (cell_of_doc base v d) (sym (plus-assoc (v 2) off (negsuc 0))) ∙ h (off +ℤ negsuc 0))
      ∙ by_place-le (v 2 +ℤ off) (integer_at v at) (seen v mode os off) (put_cell ch)
      (seen v mode os (off +ℤ negsuc 0)))
  read_changed Plain (ops.Del at site) d os off h =
      ap (λ x. if int_lt (v 2 +ℤ off) (integer_at v at) then x
      else cell_of_doc base v d ((v 2 +ℤ off) +ℤ pos 1)) (h off)
      ∙ (ap (λ x. if int_lt (v 2 +ℤ off) (integer_at v at) then finished_at (seen v Plain os off) else x)
      (ap (cell_of_doc base v d) (sym (plus-assoc (v 2) off (pos 1))) ∙ h (off +ℤ pos 1))
      ∙ if_through finished_at (int_lt (v 2 +ℤ off) (integer_at v at)) (seen v Plain os off)
      (seen v Plain os (off +ℤ pos 1)))
  read_changed Tomb (ops.Del at site) d os off h =
      ap (λ x. by_place (v 2 +ℤ off) (integer_at v at) x (killed x) x) (h off)
      ∙ by_place-le (v 2 +ℤ off) (integer_at v at) (seen v Tomb os off)
      (buried_cell (seen v Tomb os off)) (seen v Tomb os off)
  read_changed mode (ops.Upd at ch site) d os off h =
      ap (λ x. by_place (v 2 +ℤ off) (integer_at v at) x (rewritten_cell (v ch) x) x) (h off)
      ∙ by_place-le (v 2 +ℤ off) (integer_at v at) (seen v mode os off)
      (replaced_cell ch (seen v mode os off)) (seen v mode os off)
  read_changed mode ops.Nop d os off h = h off

  -- a cell of a document is the one that is seen after its changes
  read_doc :
      (mode : Mode) (count : ℕ) (d : DocTree) (off : ℤ) → IsDocOf mode count d
      → cell_of_doc base v d (v 2 +ℤ off) ≡ finished_at (seen v mode (changes_of d) off)
  read_doc mode count documents.Base off h = refl
  read_doc mode count (documents.Put d at ch) off h =
      read_changed mode (ops.Ins at ch 0) d (changes_of d) off (λ k. read_doc mode count d k h.2)
  read_doc Plain count (documents.Cut d at) off h =
      read_changed Plain (ops.Del at 0) d (changes_of d) off (λ k. read_doc Plain count d k h.2)
  read_doc Tomb count (documents.Cut d at) off h = absurd (cc)
  read_doc Plain count (documents.Mark d at) off h = absurd (cc)
  read_doc Tomb count (documents.Mark d at) off h =
      read_changed Tomb (ops.Del at 0) d (changes_of d) off (λ k. read_doc Tomb count d k h.2)
  read_doc mode count (documents.Over d at ch) off h =
      read_changed mode (ops.Upd at ch 0) d (changes_of d) off (λ k. read_doc mode count d k h.2)

  -- the document that operations make
  pub read_made :
      (mode : Mode) (os : List SymOp) (off : ℤ)
      → cell_of_doc base v (doc_of mode os) (v 2 +ℤ off) ≡ finished_at (seen v mode os off)
  read_made mode [] off = refl
  read_made mode (o ∷ os) off = read_changed mode o (doc_of mode os) os off (λ k. read_made mode os k)

  -- a cell is the finished cell that it is read as
  pub read_cell :
      (mode : Mode) (count : ℕ) (cell : CellTree) → IsCellOf mode count cell
      → cell_of base v cell ≡ finished_at (read_of v mode cell)
  read_cell mode count (cells.At d at) h =
      ap (λ x. cell_of_doc base v d (v x +ℤ at.off)) h.1.name ∙ read_doc mode count d at.off h.0
  read_cell mode count (cells.Char ch) h = refl
  read_cell mode count (cells.Dead cell) h = ap killed (read_cell mode count cell h)
  read_cell mode count (cells.Over ch cell) h = ap (rewritten_cell (v ch)) (read_cell mode count cell h.1)
  read_cell mode count (cells.If g on_yes on_no) h =
      ap (λ x. if form_holds v g then x else cell_of base v on_no) (read_cell mode count on_yes h.1)
      ∙ (ap (λ x. if form_holds v g then finished_at (read_of v mode on_yes) else x) (read_cell mode count on_no h.2)
      ∙ if_through finished_at (form_holds v g) (read_of v mode on_yes) (read_of v mode on_no))
