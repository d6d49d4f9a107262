-- What a finished cell means in a document: the cell that the document has there after the operations.
use Rattle.std.proofs.Common.{◌≡◌, ℕ, ℤ, pos, negsuc, ◌+ℤ◌, Bool, true, false, if◌then◌else◌, int_le, int_lt, Some}
use Rattle.std.proofs.Common.{List, [], ◌∷◌, refl, ap, sym, ◌∙◌}
use Rattle.std.specs.Prelude.{unsigned_abs}
use Rattle.std.specs.List.{AllByRecursion}
use Rattle.ot_model.specs.declared.cell.Cell.{Cell}
use Rattle.ot_model.specs.declared.op.Mode.{Mode}
use Rattle.ot_model.specs.declared.op.Mode.TheVariants.{Plain, Tomb}
use Rattle.ot_model.specs.Cells.{live_cell, dead_cell, cell_with}
use Rattle.ot_questions.specs.declared.cell.Source.{Source}
use Rattle.ot_questions.specs.declared.cell.Source.TheVariants.{Base, Named}
use Rattle.ot_questions.specs.declared.cell.Flag.{Flag}
use Rattle.ot_questions.specs.declared.cell.Flag.TheVariants.{Live, Dead, From}
use Rattle.ot_questions.specs.declared.cell.Finished.{Finished}
use Rattle.ot_questions.specs.declared.place.Place.{Place}
use Rattle.ot_questions.specs.declared.place.SymOp.{SymOp}
use Rattle.ot_questions.specs.declared.place.SymOp.TheVariants.{Ins, Del, Upd, Nop}
use Rattle.ot_questions.specs.Places.{integer_at, sym_char}
use Rattle.ot_questions.specs.Reading.{base_cell, put_cell, buried_cell, replaced_cell}
use Rattle.ot_questions.specs.Meaning.{op_at}
use Rattle.ot_questions.proofs.Tests.{plus-assoc}
use Rattle.ot_questions.proofs.Values.{changed_cell, seen}
use Rattle.ot_questions.proofs.Documents.{changed, shown}

abbrev pub source_meant : (ℕ → ℤ) → (ℤ → Cell) → Source → ℕ
source_meant v g (Base off) = (g (v 2 +ℤ off)).ch
source_meant v g (Named c) = unsigned_abs (v c)

abbrev pub flag_meant : (ℕ → ℤ) → (ℤ → Cell) → Flag → Bool
flag_meant v g Live = true
flag_meant v g Dead = false
flag_meant v g (From off) = (g (v 2 +ℤ off)).live

-- the cell that a finished cell stands for, in a document seen as a function
abbrev pub meant : (ℕ → ℤ) → (ℤ → Cell) → Finished → Cell
meant v g x = record { ch = source_meant v g x.source; live = flag_meant v g x.flag }

-- the document after the operations, the last one first
abbrev pub after_ops : (ℕ → ℤ) → Mode → List SymOp → (ℤ → Cell) → ℤ → Cell
after_ops v mode [] g j = g j
after_ops v mode (o ∷ ops) g j = shown mode (op_at v o) (after_ops v mode ops g) j

meant_choice :
    (v : ℕ → ℤ) (g : ℤ → Cell) (b : Bool) (x y : Finished)
    → (if b then meant v g x else meant v g y) ≡ meant v g (if b then x else y)
meant_choice v g true x y = refl
meant_choice v g false x y = refl

-- three cells by two tests
three :
    (b c : Bool) (x y z p q r : Cell) → x ≡ p → y ≡ q → z ≡ r
    → (if b then x else (if c then y else z)) ≡ (if b then p else (if c then q else r))
three b c x y z p q r e d h =
    ap (λ w. if b then w else (if c then y else z)) e ∙
    (ap (λ w. if b then p else (if c then w else z)) d ∙ ap (λ w. if b then p else (if c then q else w)) h)

meant_three :
    (v : ℕ → ℤ) (g : ℤ → Cell) (b c : Bool) (x y z : Finished)
    → (if b then meant v g x else (if c then meant v g y else meant v g z))
    ≡ meant v g (if b then x else (if c then y else z))
meant_three v g true c x y z = refl
meant_three v g false true x y z = refl
meant_three v g false false x y z = refl

-- what is seen after an insertion: the cell before it, the new one, or the one that moved on
seen_put :
    (v : ℕ → ℤ) (mode : Mode) (p : Place) (c s : ℕ) (ops : List SymOp) (g : ℤ → Cell) (off : ℤ)
    → after_ops v mode ops g (v 2 +ℤ off) ≡ meant v g (seen v mode ops off)
    → after_ops v mode ops g (v 2 +ℤ (off +ℤ negsuc 0)) ≡ meant v g (seen v mode ops (off +ℤ negsuc 0))
    → after_ops v mode (Ins p c s ∷ ops) g (v 2 +ℤ off) ≡ meant v g (seen v mode (Ins p c s ∷ ops) off)
seen_put v mode p c s ops g off here behind =
    three (int_lt (v 2 +ℤ off) (integer_at v p)) (int_le (v 2 +ℤ off) (integer_at v p))
    (after_ops v mode ops g (v 2 +ℤ off)) (live_cell (unsigned_abs (v c)))
    (after_ops v mode ops g ((v 2 +ℤ off) +ℤ negsuc 0))
    (meant v g (seen v mode ops off)) (meant v g (put_cell c)) (meant v g (seen v mode ops (off +ℤ negsuc 0)))
    here refl (ap (after_ops v mode ops g) (sym (plus-assoc (v 2) off (negsuc 0))) ∙ behind)
    ∙ meant_three v g (int_lt (v 2 +ℤ off) (integer_at v p)) (int_le (v 2 +ℤ off) (integer_at v p))
    (seen v mode ops off) (put_cell c) (seen v mode ops (off +ℤ negsuc 0))

-- a tombstone, or a character that was replaced: what is done to the cell is what is done to what was read
seen_changed :
    (v : ℕ → ℤ) (mode : Mode) (in_document : Cell → Cell) (as_read : Finished → Finished) (p : Place) (ops : List SymOp)
    (g : ℤ → Cell) (off : ℤ) → ((x : Finished) → in_document (meant v g x) ≡ meant v g (as_read x))
    → after_ops v mode ops g (v 2 +ℤ off) ≡ meant v g (seen v mode ops off)
    → changed in_document (integer_at v p) (after_ops v mode ops g) (v 2 +ℤ off)
    ≡ meant v g (changed_cell v as_read p off (seen v mode ops off))
seen_changed v mode in_document as_read p ops g off like here =
    three (int_lt (v 2 +ℤ off) (integer_at v p)) (int_le (v 2 +ℤ off) (integer_at v p))
    (after_ops v mode ops g (v 2 +ℤ off)) (in_document (after_ops v mode ops g (v 2 +ℤ off)))
    (after_ops v mode ops g (v 2 +ℤ off)) (meant v g (seen v mode ops off)) (meant v g (as_read (seen v mode ops off)))
    (meant v g (seen v mode ops off)) here (ap in_document here ∙ like (seen v mode ops off)) here
    ∙ meant_three v g (int_lt (v 2 +ℤ off) (integer_at v p)) (int_le (v 2 +ℤ off) (integer_at v p))
    (seen v mode ops off) (as_read (seen v mode ops off)) (seen v mode ops off)

-- The cell that is read at the valuation is the document's own. There is no condition on the index: a
-- document has a cell at each integer here.
pub seen_at :
    (v : ℕ → ℤ) (mode : Mode) (ops : List SymOp) (g : ℤ → Cell) (off : ℤ)
    → after_ops v mode ops g (v 2 +ℤ off) ≡ meant v g (seen v mode ops off)
seen_at v mode [] g off = refl
seen_at v Plain (Ins p c s ∷ ops) g off = seen_put v Plain p c s ops g off (seen_at v Plain ops g off)
    (seen_at v Plain ops g (off +ℤ negsuc 0))
seen_at v Tomb (Ins p c s ∷ ops) g off =
    seen_put v Tomb p c s ops g off (seen_at v Tomb ops g off) (seen_at v Tomb ops g (off +ℤ negsuc 0))
seen_at v Plain (Del p s ∷ ops) g off =
    ap (λ w. if int_lt (v 2 +ℤ off) (integer_at v p) then w else after_ops v Plain ops g ((v 2 +ℤ off) +ℤ pos 1))
    (seen_at v Plain ops g off)
    ∙ (ap (λ w. if int_lt (v 2 +ℤ off) (integer_at v p) then meant v g (seen v Plain ops off) else w)
    (ap (after_ops v Plain ops g) (sym (plus-assoc (v 2) off (pos 1))) ∙ seen_at v Plain ops g (off +ℤ pos 1))
    ∙ meant_choice v g (int_lt (v 2 +ℤ off) (integer_at v p)) (seen v Plain ops off) (seen v Plain ops (off +ℤ pos 1)))
seen_at v Tomb (Del p s ∷ ops) g off =
    seen_changed v Tomb dead_cell buried_cell p ops g off (λ x. refl) (seen_at v Tomb ops g off)
seen_at v Plain (Upd p c s ∷ ops) g off =
    seen_changed v Plain (cell_with (unsigned_abs (v c))) (replaced_cell c) p ops g off (λ x. refl)
    (seen_at v Plain ops g off)
seen_at v Tomb (Upd p c s ∷ ops) g off =
    seen_changed v Tomb (cell_with (unsigned_abs (v c))) (replaced_cell c) p ops g off (λ x. refl)
    (seen_at v Tomb ops g off)
seen_at v Plain (Nop ∷ ops) g off = seen_at v Plain ops g off
seen_at v Tomb (Nop ∷ ops) g off = seen_at v Tomb ops g off

-- what an operation's character makes of cells has this: it stands in a cell of its own, or in a cell that was
-- read, whose flag it leaves
abbrev pub PutsOnly : (Finished → Type 0) → SymOp → Type 0
PutsOnly P o = (c : ℕ) → sym_char o ≡ Some c → P (put_cell c) × ((x : Finished) → P x → P (replaced_cell c x))

-- What base cells have, and what tombstones and the characters of the operations keep: each cell that is
-- read has it.
module _ (P : Finished → Type 0) (base : (off : ℤ) → P (base_cell off)) (buried : (x : Finished) → P x
    → P (buried_cell x)) where
  one_of_two : (b : Bool) (x y : Finished) → P x → P y → P (if b then x else y)
  one_of_two true x y h g = h
  one_of_two false x y h g = g

  one_of_three : (b c : Bool) (x y z : Finished) → P x → P y → P z → P (if b then x else (if c then y else z))
  one_of_three b c x y z hx hy hz = one_of_two b x (if c then y else z) hx (one_of_two c y z hy hz)

  -- what holds of the base cells and of what operations put holds of each cell that is seen
  pub each_seen :
      (v : ℕ → ℤ) (mode : Mode) (ops : List SymOp) (off : ℤ) → AllByRecursion (PutsOnly P) ops → P (seen v mode ops off)
  each_seen v mode [] off h = base off
  each_seen v Plain (Ins p c s ∷ ops) off h =
      one_of_three (int_lt (v 2 +ℤ off) (integer_at v p)) (int_le (v 2 +ℤ off) (integer_at v p)) _ _ _
      (each_seen v Plain ops off h.1) (h.0 c refl).0 (each_seen v Plain ops (off +ℤ negsuc 0) h.1)
  each_seen v Tomb (Ins p c s ∷ ops) off h =
      one_of_three (int_lt (v 2 +ℤ off) (integer_at v p)) (int_le (v 2 +ℤ off) (integer_at v p)) _ _ _
      (each_seen v Tomb ops off h.1) (h.0 c refl).0 (each_seen v Tomb ops (off +ℤ negsuc 0) h.1)
  each_seen v Plain (Del p s ∷ ops) off h =
      one_of_two (int_lt (v 2 +ℤ off) (integer_at v p)) _ _ (each_seen v Plain ops off h.1)
      (each_seen v Plain ops (off +ℤ pos 1) h.1)
  each_seen v Tomb (Del p s ∷ ops) off h =
      one_of_three (int_lt (v 2 +ℤ off) (integer_at v p)) (int_le (v 2 +ℤ off) (integer_at v p)) _ _ _
      (each_seen v Tomb ops off h.1) (buried (seen v Tomb ops off) (each_seen v Tomb ops off h.1))
      (each_seen v Tomb ops off h.1)
  each_seen v Plain (Upd p c s ∷ ops) off h =
      one_of_three (int_lt (v 2 +ℤ off) (integer_at v p)) (int_le (v 2 +ℤ off) (integer_at v p)) _ _ _
      (each_seen v Plain ops off h.1) ((h.0 c refl).1 (seen v Plain ops off) (each_seen v Plain ops off h.1))
      (each_seen v Plain ops off h.1)
  each_seen v Tomb (Upd p c s ∷ ops) off h =
      one_of_three (int_lt (v 2 +ℤ off) (integer_at v p)) (int_le (v 2 +ℤ off) (integer_at v p)) _ _ _
      (each_seen v Tomb ops off h.1) ((h.0 c refl).1 (seen v Tomb ops off) (each_seen v Tomb ops off h.1))
      (each_seen v Tomb ops off h.1)
  each_seen v Plain (Nop ∷ ops) off h = each_seen v Plain ops off h.1
  each_seen v Tomb (Nop ∷ ops) off h = each_seen v Tomb ops off h.1
