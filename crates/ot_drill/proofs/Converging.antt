-- The functions of the workload have the first property: both ways from two operations give one document.
use Rattle.std.proofs.Common.{◌≡◌, ◌≢◌, ℕ, suc, ◌+◌, ◌<◌, ◌≤◌, ℤ, pos, negsuc, ◌+ℤ◌, List, length, Some, refl, ap, sym}
use Rattle.std.proofs.Common.{◌∙◌, inl, inr, arith}
use Rattle.std.proofs.lemmas.Bool.{cases_lt}
use Rattle.std.proofs.lemmas.Int.{ints}
use Rattle.ot_model.specs.declared.cell.Cell.{Cell}
use Rattle.ot_model.specs.declared.op.Op.{Op}
use Rattle.ot_model.specs.declared.op.Op.TheVariants.{Ins, Del, Upd, Nop}
use Rattle.ot_model.specs.declared.op.Mode.TheVariants.{Tomb}
use Rattle.ot_model.specs.Cells.{live_cell}
use Rattle.ot_model.specs.Effect.{IsEnabled, document_after}
use Rattle.fn_rules.specs.Properties.{ConvergesAt, converges_exchanged, HasTp1}
use Rattle.fn_rules.specs.Transformation.{IsAllowed}
use Rattle.ot_drill.specs.Workload.{drill_function}
use Rattle.ot_drill.proofs.Places.{IsBefore, place_behind, before_stays, behind_moves, one_is_before}
use Rattle.ot_drill.proofs.Edits.{put, mark, with_cells-put, with_cells-mark, length-put, length-mark, put-put}
use Rattle.ot_drill.proofs.Edits.{mark-put, mark-put_behind, mark-mark}
use Rattle.ot_drill.proofs.Behind.{IsDeclared, insertion_behind, deletion_behind, insertion_behind_deletion}
use Rattle.ot_drill.proofs.Behind.{deletion_behind_deletion}

-- the document after an insertion
put_document : (p c s : ℕ) (d : List Cell) → document_after Tomb (Ins (pos p) c s) d ≡ put p (live_cell c) d
put_document p c s d = with_cells-put p (live_cell c) d

-- the document after a deletion
mark_document : (p s : ℕ) (d : List Cell) → document_after Tomb (Del (pos p) s) d ≡ mark p d
mark_document p s d = with_cells-mark p d

-- it is longer by one cell after an insertion
length-put_document : (p c s : ℕ) (d : List Cell) → length (document_after Tomb (Ins (pos p) c s) d) ≡ length d + 1
length-put_document p c s d = ap length (put_document p c s d) ∙ (length-put p (live_cell c) d ∙ omega arith)

-- and as long after a deletion
length-mark_document : (p s : ℕ) (d : List Cell) → length (document_after Tomb (Del (pos p) s) d) ≡ length d
length-mark_document p s d = ap length (mark_document p s d) ∙ length-mark p d

-- where a place is that moves up
moved_to : (p q : ℤ) (s t : ℕ) (to : ℕ) → IsBefore q t p s → p +ℤ pos 1 ≡ pos to → place_behind p s q t ≡ pos to
moved_to p q s t to h e = behind_moves p q s t h ∙ e

-- two insertions, of which the first is before the second
ordered_insertions : (n : ℕ) (d : List Cell) (p q c e s t : ℕ) → p ≤ length d → q ≤ length d
    → IsBefore (pos p) s (pos q) t → ConvergesAt (drill_function n) d (Ins (pos p) c s) (Ins (pos q) e t)
ordered_insertions n d p q c e s t fits_p fits_q order =
    let length_p = length-put_document p c s d in
    let length_q = length-put_document q e t d in
    record {
      b_after_a = Ins (pos (suc q)) e t;
      a_after_b = Ins (pos p) c s;
      b_transformed = insertion_behind n (pos q) (pos p) e c t s
          ∙ ap (λ x. Some (Ins x e t)) (moved_to (pos q) (pos p) t s (suc q) order (omega (arith, ints)));
      a_transformed = insertion_behind n (pos p) (pos q) c e s t
          ∙ ap (λ x. Some (Ins x c s)) (before_stays (pos p) (pos q) s t order);
      b_enabled = (omega (arith, ints), omega (arith, ints, length_p));
      a_enabled = (omega (arith, ints), omega (arith, ints, length_q));
      one_document = put_document (suc q) e t (document_after Tomb (Ins (pos p) c s) d)
          ∙ (ap (put (suc q) (live_cell e)) (put_document p c s d)
          ∙ (put-put p q (live_cell c) (live_cell e) d (omega (arith, ints, order.place)) fits_q
          ∙ sym (put_document p c s (document_after Tomb (Ins (pos q) e t) d)
          ∙ ap (put p (live_cell c)) (put_document q e t d))));
    }

-- an insertion and a deletion in front of it
deletion_in_front : (n : ℕ) (d : List Cell) (p q c s t : ℕ) → p ≤ length d → q < p →
    ConvergesAt (drill_function n) d (Ins (pos p) c s) (Del (pos q) t)
deletion_in_front n d p q c s t fits order =
    let length_p = length-put_document p c s d in
    let length_q = length-mark_document q t d in
    let before : IsBefore (pos q) s (pos p) s =
    record { place = omega (arith, ints); rank = λ e. omega (arith, ints) } in
    record {
      b_after_a = Del (pos q) t;
      a_after_b = Ins (pos p) c s;
      b_transformed = deletion_behind n (pos q) (pos p) c t s s (omega arith)
          ∙ ap (λ x. Some (Del x t)) (before_stays (pos q) (pos p) s s before);
      a_transformed = insertion_behind_deletion n (pos p) (pos q) c s t;
      b_enabled = (omega (arith, ints), omega (arith, ints, length_p));
      a_enabled = (omega (arith, ints), omega (arith, ints, length_q));
      one_document = mark_document q t (document_after Tomb (Ins (pos p) c s) d)
          ∙ (ap (mark q) (put_document p c s d)
          ∙ (mark-put p q (live_cell c) d order fits
          ∙ sym (put_document p c s (document_after Tomb (Del (pos q) t) d)
          ∙ ap (put p (live_cell c)) (mark_document q t d))));
    }

-- an insertion and a deletion at its place or behind it
deletion_farther : (n : ℕ) (d : List Cell) (p q c s t : ℕ) → q < length d → p ≤ q →
    ConvergesAt (drill_function n) d (Ins (pos p) c s) (Del (pos q) t)
deletion_farther n d p q c s t fits order =
    let length_p = length-put_document p c s d in
    let length_q = length-mark_document q t d in
    let before : IsBefore (pos p) s (pos q) (suc s) = record { place = omega (arith, ints); rank = λ e. omega arith } in
    record {
      b_after_a = Del (pos (suc q)) t;
      a_after_b = Ins (pos p) c s;
      b_transformed = deletion_behind n (pos q) (pos p) c t s (suc s) (omega arith)
          ∙ ap (λ x. Some (Del x t)) (moved_to (pos q) (pos p) (suc s) s (suc q) before (omega (arith, ints)));
      a_transformed = insertion_behind_deletion n (pos p) (pos q) c s t;
      b_enabled = (omega (arith, ints), omega (arith, ints, length_p));
      a_enabled = (omega (arith, ints), omega (arith, ints, length_q));
      one_document = mark_document (suc q) t (document_after Tomb (Ins (pos p) c s) d)
          ∙ (ap (mark (suc q)) (put_document p c s d)
          ∙ (mark-put_behind p q (live_cell c) d order
          ∙ sym (put_document p c s (document_after Tomb (Del (pos q) t) d)
          ∙ ap (put p (live_cell c)) (mark_document q t d))));
    }

-- an insertion and a deletion
insertion_and_deletion : (n : ℕ) (d : List Cell) (p q c s t : ℕ) → p ≤ length d → q < length d →
    ConvergesAt (drill_function n) d (Ins (pos p) c s) (Del (pos q) t)
insertion_and_deletion n d p q c s t fits_p fits_q =
    elim (cases_lt q p) [
      | inl in_front ↦ deletion_in_front n d p q c s t fits_p in_front
      | inr farther ↦ deletion_farther n d p q c s t fits_q farther
    ]

-- two deletions, maybe of one cell
two_deletions : (n : ℕ) (d : List Cell) (p q s t : ℕ) → p < length d → q < length d →
    ConvergesAt (drill_function n) d (Del (pos p) s) (Del (pos q) t)
two_deletions n d p q s t fits_p fits_q =
    let length_p = length-mark_document p s d in
    let length_q = length-mark_document q t d in
    record {
      b_after_a = Del (pos q) t;
      a_after_b = Del (pos p) s;
      b_transformed = deletion_behind_deletion n (pos q) (pos p) t s;
      a_transformed = deletion_behind_deletion n (pos p) (pos q) s t;
      b_enabled = (omega (arith, ints), omega (arith, ints, length_p));
      a_enabled = (omega (arith, ints), omega (arith, ints, length_q));
      one_document = mark_document q t (document_after Tomb (Del (pos p) s) d)
          ∙ (ap (mark q) (mark_document p s d)
          ∙ (mark-mark q p d
          ∙ sym (mark_document p s (document_after Tomb (Del (pos q) t) d) ∙ ap (mark p) (mark_document q t d))));
    }

-- two insertions of two sites
two_insertions : (n : ℕ) (d : List Cell) (p q c e s t : ℕ) → p ≤ length d → q ≤ length d → s ≢ t →
    ConvergesAt (drill_function n) d (Ins (pos p) c s) (Ins (pos q) e t)
two_insertions n d p q c e s t fits_p fits_q apart =
    elim (one_is_before (pos p) (pos q) s t apart) [
      | inl before ↦ ordered_insertions n d p q c e s t fits_p fits_q before
      | inr behind ↦ converges_exchanged (drill_function n) d (Ins (pos q) e t) (Ins (pos p) c s)
          (ordered_insertions n d q p e c t s fits_q fits_p behind)
    ]

-- two operations, by their kinds
by_kinds : (n : ℕ) (d : List Cell) (a b : Op) → IsDeclared a → IsDeclared b → IsEnabled a (length d)
    → IsEnabled b (length d) → IsAllowed (drill_function n) a b → ConvergesAt (drill_function n) d a b
by_kinds n d (Upd p c s) b of_a of_b at_a at_b ab = absurd (cc)
by_kinds n d Nop b of_a of_b at_a at_b ab = absurd (cc)
by_kinds n d a (Upd q e t) of_a of_b at_a at_b ab = absurd (cc)
by_kinds n d a Nop of_a of_b at_a at_b ab = absurd (cc)
by_kinds n d (Ins (negsuc p) c s) b of_a of_b at_a at_b ab = absurd (omega (arith, ints, at_a.0))
by_kinds n d (Del (negsuc p) s) b of_a of_b at_a at_b ab = absurd (omega (arith, ints, at_a.0))
by_kinds n d a (Ins (negsuc q) e t) of_a of_b at_a at_b ab = absurd (omega (arith, ints, at_b.0))
by_kinds n d a (Del (negsuc q) t) of_a of_b at_a at_b ab = absurd (omega (arith, ints, at_b.0))
by_kinds n d (Ins (pos p) c s) (Ins (pos q) e t) of_a of_b at_a at_b ab =
    two_insertions n d p q c e s t (omega (arith, ints, at_a.1)) (omega (arith, ints, at_b.1)) (ab.sites refl)
by_kinds n d (Ins (pos p) c s) (Del (pos q) t) of_a of_b at_a at_b ab =
    insertion_and_deletion n d p q c s t (omega (arith, ints, at_a.1)) (omega (arith, ints, at_b.1))
by_kinds n d (Del (pos p) s) (Ins (pos q) e t) of_a of_b at_a at_b ab =
    converges_exchanged (drill_function n) d (Ins (pos q) e t) (Del (pos p) s)
    (insertion_and_deletion n d q p e t s (omega (arith, ints, at_b.1)) (omega (arith, ints, at_a.1)))
by_kinds n d (Del (pos p) s) (Del (pos q) t) of_a of_b at_a at_b ab =
    two_deletions n d p q s t (omega (arith, ints, at_a.1)) (omega (arith, ints, at_b.1))

-- the first property
pub drill-HasTp1 : (n : ℕ) → HasTp1 (drill_function n)
drill-HasTp1 n d a b h = by_kinds n d a b h.0 h.3.0 h.1 h.3.1 h.2.0
