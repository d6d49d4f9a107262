-- Cells that are equal, and the edit of one cell of a document.
use Rattle.std.proofs.Common.{◌≡◌, ℕ, ◌+◌, ◌<◌, List, [], ◌∷◌, length, take, drop, ap, ap₂, Bool, ◌==◌, ◌&&◌, refl}
use Rattle.std.proofs.Common.{add-one, append_assoc, eqb-true, eq-eqb}
use Rattle.std.specs.Prelude.{slice_set, slice_get, Some, zero, suc}
use Rattle.std.specs.Bool.{Decides, beq}
use Rattle.std.specs.Cmp.{booleans_Decides}
use Rattle.std.proofs.lemmas.Bool.{and_parts, and_from}
use lib.Seq.{set_split}
use Rattle.ot_model.specs.declared.cell.Cell.{Cell}
use Rattle.ot_model.specs.Cells.{with_cells}

-- cells are equal where their characters and their flags are
pub cell_eq-Decides : (a b : Cell) → Decides ((a.ch == b.ch) && beq a.live b.live) (a ≡ b)
cell_eq-Decides a b = (
  λ same. let parts = and_parts (a.ch == b.ch) (beq a.live b.live) same in
      ap₂ (λ (ch : ℕ) (live : Bool). let cell : Cell = record { ch = ch; live = live } in cell)
      (eqb-true a.ch b.ch parts.0) ((booleans_Decides a.live b.live).0 parts.1),
  λ equal. and_from (a.ch == b.ch) (beq a.live b.live) (eq-eqb a.ch b.ch (ap (λ (cell : Cell). cell.ch) equal))
      ((booleans_Decides a.live b.live).1 (ap (λ (cell : Cell). cell.live) equal)),
)

-- a cell that is set is an edit of one place
pub slice_set-with_cells : (doc : List Cell) (at : ℕ) (x : Cell) → at < length doc
    → slice_set doc at x ≡ with_cells at 1 (x ∷ []) doc
slice_set-with_cells doc at x inside =
    rw (set_split doc at x inside, append_assoc (take at doc) (x ∷ []) (drop (at + 1) doc), add-one at) refl

-- the cell at a place, taken out as a list
pub take-one : (doc : List Cell) (at : ℕ) (x : Cell) → slice_get doc at ≡ Some x → take 1 (drop at doc) ≡ x ∷ []
take-one [] at x here = cc
take-one (y ∷ others) zero x here = let same : y ≡ x = cc in rw same refl
take-one (y ∷ others) (suc at) x here = take-one others at x here
