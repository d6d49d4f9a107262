-- The first property of templates where a deletion takes its cell out.
use Rattle.std.proofs.Common.{◌≡◌, ℕ, zero, suc, ◌+◌, ◌<◌, ◌≤◌, pos, negsuc, ◌+ℤ◌, true, false, int_lt, int_le, List}
use Rattle.std.proofs.Common.{length, Some, ap, sym, ◌∙◌, inl, inr, arith}
use Rattle.std.proofs.lemmas.Bool.{cases_lt}
use Rattle.std.proofs.lemmas.Int.{ints}
use Rattle.ot_model.specs.declared.cell.Cell.{Cell}
use Rattle.ot_model.specs.declared.op.Op.{Op}
use Rattle.ot_model.specs.declared.op.Op.TheVariants.{Ins, Del, Upd, Nop}
use Rattle.ot_model.specs.declared.op.Mode.{Mode}
use Rattle.ot_model.specs.declared.op.Mode.TheVariants.{Plain}
use Rattle.ot_model.specs.Cells.{live_cell, cell_with}
use Rattle.ot_model.specs.Effect.{document_after}
use Rattle.fn_rules.specs.declared.function.Head.{Head}
use Rattle.fn_rules.specs.Properties.{ConvergesAt, converges_exchanged}
use Rattle.ot_heads.specs.Templates.{template_of}
use Rattle.ot_heads.proofs.Converging.{put_document, length-put_document, changed_document, length-changed}
use Rattle.ot_heads.proofs.Edits.{put, alter, remove, with_cells-remove, length-remove, remove-put, remove-put_behind}
use Rattle.ot_heads.proofs.Edits.{remove-remove, remove-alter, alter-remove, alter-remove_behind}
use Rattle.ot_heads.proofs.Places.{IsBefore, IsUpTo, upto_stays, behind_moves}
use Rattle.ot_heads.proofs.Rules.{rank, cell_by_insertion, by_change}
use Rattle.ot_heads.proofs.Taking.{without_stays, without_moves, cell_stays, cell_moves, cell_goes, op_at}
use Rattle.ot_heads.proofs.Taking.{insertion_by_taking, cell_by_taking}

-- the tests of places that are counted from 0
lt_true : (p q : ℕ) → p < q → int_lt (pos p) (pos q) ≡ true
lt_true p q h = grind (arith, ints)

lt_false : (p q : ℕ) → q ≤ p → int_lt (pos p) (pos q) ≡ false
lt_false p q h = grind (arith, ints)

le_true : (p q : ℕ) → p ≤ q → int_le (pos p) (pos q) ≡ true
le_true p q h = grind (arith, ints)

le_false : (p q : ℕ) → q < p → int_le (pos p) (pos q) ≡ false
le_false p q h = grind (arith, ints)

one_less : (p : ℕ) → pos (suc p) +ℤ negsuc 0 ≡ pos p
one_less p = omega (arith, ints)

module _ (head : Head) (plain : head.mode ≡ Plain) (del : head.del ≡ true) where
  abbrev after : Op → List Cell → List Cell
  after o d = document_after head.mode o d

  -- the document after a deletion
  removed_document : (q t : ℕ) (d : List Cell) → after (Del (pos q) t) d ≡ remove q d
  removed_document q t d = ap (λ (m : Mode). document_after m (Del (pos q) t) d) plain ∙ with_cells-remove q d

  length-removed : (q t : ℕ) (d : List Cell) → q < length d → suc (length (after (Del (pos q) t) d)) ≡ length d
  length-removed q t d there = ap (λ l. suc (length l)) (removed_document q t d) ∙ length-remove q d there

  -- the document after an insertion and a deletion, and the other way round
  removed_put : (p c s q t : ℕ) (d : List Cell)
      → after (Del (pos q) t) (after (Ins (pos p) c s) d) ≡ remove q (put p (live_cell c) d)
  removed_put p c s q t d = removed_document q t (after (Ins (pos p) c s) d) ∙ ap (remove q) (put_document head p c s d)

  put_removed : (p c s q t : ℕ) (d : List Cell)
      → after (Ins (pos p) c s) (after (Del (pos q) t) d) ≡ put p (live_cell c) (remove q d)
  put_removed p c s q t d =
      put_document head p c s (after (Del (pos q) t) d) ∙ ap (put p (live_cell c)) (removed_document q t d)

  -- an insertion, and a deletion at its place or behind it
  taking_farther : (d : List Cell) (p q c s t : ℕ) → head.ins ≡ true → q < length d → p ≤ q
      → ConvergesAt (template_of head) d (Ins (pos p) c s) (Del (pos q) t)
  taking_farther d p q c s t ins there order =
      let m : ℕ = rank head.sites_differ c s in
      let length_p = length-put_document head p c s d in
      let length_q = length-removed q t d there in
      let before : IsBefore (pos p) m (pos q) (m + 1) =
      record { place = omega (arith, ints); rank = λ e. omega arith } in
      record {
        b_after_a = Del (pos (suc q)) t;
        a_after_b = Ins (pos p) c s;
        b_transformed = cell_by_insertion head (Del (pos q) t) (pos q) (pos p) c s (m + 1) tt del ins (omega arith)
            ∙ ap (λ x. Some (Del x t)) (behind_moves (pos q) (pos p) (m + 1) m before ∙ omega (arith, ints));
        a_transformed = insertion_by_taking head plain (pos p) (pos q) c s t ins del
            ∙ ap (λ x. Some (Ins x c s)) (without_stays (pos p) (pos q) (le_true p q order));
        b_enabled = (omega (arith, ints), omega (arith, ints, length_p));
        a_enabled = (omega (arith, ints), omega (arith, ints, length_q));
        one_document = removed_put p c s (suc q) t d
            ∙ (remove-put_behind p q (live_cell c) d order ∙ sym (put_removed p c s q t d));
      }

  -- an insertion, and a deletion in front of it
  taking_in_front : (d : List Cell) (p q c s t : ℕ) → head.ins ≡ true → p ≤ length d → q < length d → q < p
      → ConvergesAt (template_of head) d (Ins (pos p) c s) (Del (pos q) t)
  taking_in_front d zero q c s t ins fits there order = absurd (omega arith)
  taking_in_front d (suc p) q c s t ins fits there order =
      let m : ℕ = rank head.sites_differ c s in
      let length_p = length-put_document head (suc p) c s d in
      let length_q = length-removed q t d there in
      let before : IsUpTo (pos q) (m + 1) (pos (suc p)) m =
      record { place = omega (arith, ints); rank = λ e. omega (arith, ints) } in
      record {
        b_after_a = Del (pos q) t;
        a_after_b = Ins (pos p) c s;
        b_transformed =
            cell_by_insertion head (Del (pos q) t) (pos q) (pos (suc p)) c s (m + 1) tt del ins (omega arith)
            ∙ ap (λ x. Some (Del x t)) (upto_stays (pos q) (pos (suc p)) (m + 1) m before);
        a_transformed = insertion_by_taking head plain (pos (suc p)) (pos q) c s t ins del
            ∙ ap (λ x. Some (Ins x c s)) (without_moves (pos (suc p)) (pos q) (le_false (suc p) q order) ∙ one_less p);
        b_enabled = (omega (arith, ints), omega (arith, ints, length_p));
        a_enabled = (omega (arith, ints), omega (arith, ints, length_q));
        one_document = removed_put (suc p) c s q t d
            ∙ (remove-put p q (live_cell c) d (omega arith) there ∙ sym (put_removed p c s q t d));
      }

  pub insertion_and_taking : (d : List Cell) (p q c s t : ℕ) → head.ins ≡ true → p ≤ length d → q < length d
      → ConvergesAt (template_of head) d (Ins (pos p) c s) (Del (pos q) t)
  insertion_and_taking d p q c s t ins fits there =
      elim (cases_lt q p) [
        | inl in_front ↦ taking_in_front d p q c s t ins fits there in_front
        | inr farther ↦ taking_farther d p q c s t ins there farther
      ]

  -- two deletions, the first in front
  ordered_takings : (d : List Cell) (p q s t : ℕ) → p < q → q < length d
      → ConvergesAt (template_of head) d (Del (pos p) s) (Del (pos q) t)
  ordered_takings d p zero s t order there = absurd (omega arith)
  ordered_takings d p (suc q) s t order there =
      let a : Op = Del (pos p) s in
      let b : Op = Del (pos (suc q)) t in
      let length_p = length-removed p s d (omega arith) in
      let length_q = length-removed (suc q) t d there in
      record {
        b_after_a = Del (pos q) t;
        a_after_b = a;
        b_transformed = cell_by_taking head plain b (pos (suc q)) (pos p) s tt del del
            ∙ (ap (λ o. Some (op_at b o))
            (cell_moves (pos (suc q)) (pos p) (lt_false (suc q) p (omega arith)) (lt_true p (suc q) order))
            ∙ ap (λ x. Some (Del x t)) (one_less q));
        a_transformed = cell_by_taking head plain a (pos p) (pos (suc q)) t tt del del
            ∙ ap (λ o. Some (op_at a o)) (cell_stays (pos p) (pos (suc q)) (lt_true p (suc q) order));
        b_enabled = (omega (arith, ints), omega (arith, ints, length_p));
        a_enabled = (omega (arith, ints), omega (arith, ints, length_q));
        one_document = removed_document q t (after a d)
            ∙ (ap (remove q) (removed_document p s d)
            ∙ (remove-remove p q d (omega arith)
            ∙ sym (removed_document p s (after b d) ∙ ap (remove p) (removed_document (suc q) t d))));
      }

  -- two deletions of one cell: nothing is left to do
  alike_takings : (d : List Cell) (p q s t : ℕ) → p ≡ q
      → ConvergesAt (template_of head) d (Del (pos p) s) (Del (pos q) t)
  alike_takings d p q s t same =
      let a : Op = Del (pos p) s in
      let b : Op = Del (pos q) t in
      record {
        b_after_a = Nop;
        a_after_b = Nop;
        b_transformed = cell_by_taking head plain b (pos q) (pos p) s tt del del
            ∙ ap (λ o. Some (op_at b o))
            (cell_goes (pos q) (pos p) (lt_false q p (omega arith)) (lt_false p q (omega arith)));
        a_transformed = cell_by_taking head plain a (pos p) (pos q) t tt del del
            ∙ ap (λ o. Some (op_at a o))
            (cell_goes (pos p) (pos q) (lt_false p q (omega arith)) (lt_false q p (omega arith)));
        b_enabled = tt;
        a_enabled = tt;
        one_document = removed_document p s d ∙ (ap (λ n. remove n d) same ∙ sym (removed_document q t d));
      }

  pub two_takings : (d : List Cell) (p q s t : ℕ) → p < length d → q < length d
      → ConvergesAt (template_of head) d (Del (pos p) s) (Del (pos q) t)
  two_takings d p q s t of_p of_q =
      elim (cases_lt p q) [
        | inl in_front ↦ ordered_takings d p q s t in_front of_q
        | inr not_in_front ↦ elim (cases_lt q p) [
          | inl behind ↦ converges_exchanged (template_of head) d (Del (pos q) t) (Del (pos p) s)
              (ordered_takings d q p t s behind of_p)
          | inr not_behind ↦ alike_takings d p q s t (omega arith)
        ]
      ]

  -- the document after an update and a deletion
  removed_changed : (p s q e v : ℕ) (d : List Cell) → head.upd ≡ true
      → after (Del (pos p) s) (after (Upd (pos q) e v) d) ≡ remove p (alter (cell_with e) q d)
  removed_changed p s q e v d upd =
      removed_document p s (after (Upd (pos q) e v) d)
      ∙ ap (remove p) (changed_document head (Upd (pos q) e v) q d tt upd)

  changed_removed : (p s q e v : ℕ) (d : List Cell) → head.upd ≡ true
      → after (Upd (pos q) e v) (after (Del (pos p) s) d) ≡ alter (cell_with e) q (remove p d)
  changed_removed p s q e v d upd =
      changed_document head (Upd (pos q) e v) q (after (Del (pos p) s) d) tt upd
      ∙ ap (alter (cell_with e) q) (removed_document p s d)

  -- a deletion, and an update behind it
  update_behind : (d : List Cell) (p q s e v : ℕ) → head.upd ≡ true → p < q → q < length d
      → ConvergesAt (template_of head) d (Del (pos p) s) (Upd (pos q) e v)
  update_behind d p zero s e v upd order there = absurd (omega arith)
  update_behind d p (suc q) s e v upd order there =
      let a : Op = Del (pos p) s in
      let b : Op = Upd (pos (suc q)) e v in
      let length_p = length-removed p s d (omega arith) in
      let length_q = length-changed head b (suc q) d tt upd in
      record {
        b_after_a = Upd (pos q) e v;
        a_after_b = a;
        b_transformed = cell_by_taking head plain b (pos (suc q)) (pos p) s tt upd del
            ∙ (ap (λ o. Some (op_at b o))
            (cell_moves (pos (suc q)) (pos p) (lt_false (suc q) p (omega arith)) (lt_true p (suc q) order))
            ∙ ap (λ x. Some (Upd x e v)) (one_less q));
        a_transformed = by_change head a b tt del upd;
        b_enabled = (omega (arith, ints), omega (arith, ints, length_p));
        a_enabled = (omega (arith, ints), omega (arith, ints, length_q));
        one_document = changed_removed p s q e v d upd
            ∙ (alter-remove_behind (cell_with e) p q d (omega arith) ∙ sym (removed_changed p s (suc q) e v d upd));
      }

  -- a deletion, and an update in front of it
  update_in_front : (d : List Cell) (p q s e v : ℕ) → head.upd ≡ true → q < p → p < length d
      → ConvergesAt (template_of head) d (Del (pos p) s) (Upd (pos q) e v)
  update_in_front d p q s e v upd order there =
      let a : Op = Del (pos p) s in
      let b : Op = Upd (pos q) e v in
      let length_p = length-removed p s d there in
      let length_q = length-changed head b q d tt upd in
      record {
        b_after_a = b;
        a_after_b = a;
        b_transformed = cell_by_taking head plain b (pos q) (pos p) s tt upd del
            ∙ ap (λ o. Some (op_at b o)) (cell_stays (pos q) (pos p) (lt_true q p order));
        a_transformed = by_change head a b tt del upd;
        b_enabled = (omega (arith, ints), omega (arith, ints, length_p));
        a_enabled = (omega (arith, ints), omega (arith, ints, length_q));
        one_document = changed_removed p s q e v d upd
            ∙ (alter-remove (cell_with e) p q d order ∙ sym (removed_changed p s q e v d upd));
      }

  -- a deletion, and an update of its cell: the update has nothing to do
  update_of_taken : (d : List Cell) (p q s e v : ℕ) → head.upd ≡ true → p ≡ q → p < length d
      → ConvergesAt (template_of head) d (Del (pos p) s) (Upd (pos q) e v)
  update_of_taken d p q s e v upd same there =
      let a : Op = Del (pos p) s in
      let b : Op = Upd (pos q) e v in
      let length_q = length-changed head b q d tt upd in
      record {
        b_after_a = Nop;
        a_after_b = a;
        b_transformed = cell_by_taking head plain b (pos q) (pos p) s tt upd del
            ∙ ap (λ o. Some (op_at b o))
            (cell_goes (pos q) (pos p) (lt_false q p (omega arith)) (lt_false p q (omega arith)));
        a_transformed = by_change head a b tt del upd;
        b_enabled = tt;
        a_enabled = (omega (arith, ints), omega (arith, ints, length_q));
        one_document = removed_document p s d
            ∙ (sym (remove-alter (cell_with e) p d)
            ∙ (ap (λ n. remove p (alter (cell_with e) n d)) same ∙ sym (removed_changed p s q e v d upd)));
      }

  pub taking_and_update : (d : List Cell) (p q s e v : ℕ) → head.upd ≡ true → p < length d → q < length d
      → ConvergesAt (template_of head) d (Del (pos p) s) (Upd (pos q) e v)
  taking_and_update d p q s e v upd of_p of_q =
      elim (cases_lt p q) [
        | inl behind ↦ update_behind d p q s e v upd behind of_q
        | inr not_behind ↦ elim (cases_lt q p) [
          | inl in_front ↦ update_in_front d p q s e v upd in_front of_p
          | inr not_in_front ↦ update_of_taken d p q s e v upd (omega arith) of_p
        ]
      ]
