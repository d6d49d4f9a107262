-- The first property of templates where neither operation takes a cell out: both ways from two operations give one
-- document.
use Rattle.std.proofs.Common.{◌≡◌, ◌≢◌, ℕ, suc, ◌+◌, ◌<◌, ◌≤◌, ℤ, pos, Bool, true, false, ◌&&◌, if◌then◌else◌, List}
use Rattle.std.proofs.Common.{length, Some, refl, ap, sym, ◌∙◌, inl, inr, arith}
use Rattle.std.specs.Prelude.{nat_lt}
use Rattle.std.specs.Ordering.{int_eq}
use Rattle.std.proofs.lemmas.Bool.{cases_Bool, cases_lt}
use Rattle.std.proofs.lemmas.Bool.Decides.{nat_tests}
use Rattle.std.proofs.lemmas.Int.{ints}
use Rattle.ot_model.specs.declared.cell.Cell.{Cell}
use Rattle.ot_model.specs.declared.op.Op.{Op}
use Rattle.ot_model.specs.declared.op.Op.TheVariants.{Ins, Del, Upd, Nop}
use Rattle.ot_model.specs.declared.op.Mode.{Mode}
use Rattle.ot_model.specs.Cells.{live_cell, dead_cell, cell_with}
use Rattle.ot_model.specs.Effect.{IsEnabled, document_after}
use Rattle.ot_model.specs.Operations.{placed}
use Rattle.fn_rules.specs.declared.function.Head.{Head}
use Rattle.fn_rules.specs.Properties.{ConvergesAt, converges_exchanged}
use Rattle.ot_heads.specs.Templates.{template_of}
use Rattle.ot_heads.proofs.Places.{IsBefore, IsUpTo, upto_stays, behind_moves, upto_or_behind, before_is_upto}
use Rattle.ot_heads.proofs.Places.{one_place}
use Rattle.ot_heads.proofs.Edits.{put, alter, with_cells-put, with_cells-alter, length-put, length-alter, put-put}
use Rattle.ot_heads.proofs.Edits.{alter-put, alter-put_behind, alter-alter, alter-over}
use Rattle.ot_heads.proofs.Rules.{rank, gives_way, update_gives_way, given_way, IsChange, IsOnCell, IsOnCell-change}
use Rattle.ot_heads.proofs.Rules.{IsDeclared, insertion_by_insertion, cell_by_insertion, by_change, IsChange-placed}
use Rattle.ot_heads.proofs.Rules.{declared-placed}

-- what a change makes of its cell
abbrev pub change_of : Op → Cell → Cell
change_of (Ins p c s) y = y
change_of (Del p s) y = dead_cell y
change_of (Upd p c s) y = cell_with c y
change_of Nop y = y

-- an operation on a cell is enabled where one is
pub cell_enabled : (o : Op) (k n : ℕ) → IsOnCell o → k < n → IsEnabled (placed o (pos k)) n
cell_enabled (Ins p c s) k n is there = absurd is
cell_enabled (Del p s) k n is there = (omega (arith, ints), omega (arith, ints, there))
cell_enabled (Upd p c s) k n is there = (omega (arith, ints), omega (arith, ints, there))
cell_enabled Nop k n is there = absurd is

-- where one update is lower than another, it does not give way to it
not_both : (p q : ℤ) (m n : ℕ) → n < m → (int_eq q p && nat_lt m n) ≡ false
not_both p q m n lower = grind (arith, nat_tests, lower)

-- two updates of one cell that do not give way have one rank
one_rank : (p q : ℤ) (m n : ℕ) → p ≡ q → (int_eq p q && nat_lt n m) ≡ false → (int_eq q p && nat_lt m n) ≡ false → m ≡ n
one_rank p q m n same first second =
    elim (cases_lt n m) [
      | inl lower ↦ absurd (let gives = given_way p q m n same lower in cc)
      | inr not_lower ↦ elim (cases_lt m n) [
        | inl higher ↦ absurd (let gives = given_way q p n m (sym same) higher in cc)
        | inr not_higher ↦ omega arith
      ]
    ]

-- of one rank are operations of one character alone, where sites differ that ranks go by
one_character : (b : Bool) (c e s t : ℕ) → rank b c s ≡ rank b e t → (b ≡ true → s ≢ t) → c ≡ e
one_character true c e s t same apart = absurd (apart refl same)
one_character false c e s t same apart = same

module _ (head : Head) where
  abbrev by_site : Bool
  by_site = head.sites_differ

  abbrev after : Op → List Cell → List Cell
  after o d = document_after head.mode o d

  -- the document after an insertion
  pub put_document : (p c s : ℕ) (d : List Cell) → after (Ins (pos p) c s) d ≡ put p (live_cell c) d
  put_document p c s d = with_cells-put p (live_cell c) d

  -- the document after a change
  pub changed_document : (o : Op) (p : ℕ) (d : List Cell) → IsChange head o → IsDeclared head o
      → after (placed o (pos p)) d ≡ alter (change_of o) p d
  changed_document (Ins q c s) p d is of_o = absurd is
  changed_document (Del q s) p d is of_o =
      ap (λ (m : Mode). document_after m (Del (pos p) s) d) is ∙ with_cells-alter dead_cell p d
  changed_document (Upd q c s) p d is of_o = with_cells-alter (cell_with c) p d
  changed_document Nop p d is of_o = absurd is

  pub length-put_document : (p c s : ℕ) (d : List Cell) → length (after (Ins (pos p) c s) d) ≡ length d + 1
  length-put_document p c s d = ap length (put_document p c s d) ∙ (length-put p (live_cell c) d ∙ omega arith)

  pub length-changed : (o : Op) (p : ℕ) (d : List Cell) → IsChange head o → IsDeclared head o
      → length (after (placed o (pos p)) d) ≡ length d
  length-changed o p d is of_o = ap length (changed_document o p d is of_o) ∙ length-alter (change_of o) p d

  -- the document after a change and an insertion, and the other way round
  put_changed : (o : Op) (p c s q : ℕ) (d : List Cell) → IsChange head o → IsDeclared head o
      → after (Ins (pos p) c s) (after (placed o (pos q)) d) ≡ put p (live_cell c) (alter (change_of o) q d)
  put_changed o p c s q d is of_o =
      put_document p c s (after (placed o (pos q)) d) ∙ ap (put p (live_cell c)) (changed_document o q d is of_o)

  changed_put : (o : Op) (p c s q : ℕ) (d : List Cell) → IsChange head o → IsDeclared head o
      → after (placed o (pos q)) (after (Ins (pos p) c s) d) ≡ alter (change_of o) q (put p (live_cell c) d)
  changed_put o p c s q d is of_o =
      changed_document o q (after (Ins (pos p) c s) d) is of_o ∙ ap (alter (change_of o) q) (put_document p c s d)

  -- two insertions, of which the first is before the second
  ordered_insertions : (d : List Cell) (p q c e s t : ℕ) → head.ins ≡ true → p ≤ length d → q ≤ length d
      → IsBefore (pos p) (rank by_site c s) (pos q) (rank by_site e t)
      → ConvergesAt (template_of head) d (Ins (pos p) c s) (Ins (pos q) e t)
  ordered_insertions d p q c e s t ins fits_p fits_q order =
      let m : ℕ = rank by_site c s in
      let n : ℕ = rank by_site e t in
      let length_p = length-put_document p c s d in
      let length_q = length-put_document q e t d in
      record {
        b_after_a = Ins (pos (suc q)) e t;
        a_after_b = Ins (pos p) c s;
        b_transformed = insertion_by_insertion head (pos q) (pos p) e c t s ins
            ∙ ap (λ x. Some (Ins x e t)) (behind_moves (pos q) (pos p) n m order ∙ omega (arith, ints));
        a_transformed = insertion_by_insertion head (pos p) (pos q) c e s t ins
            ∙ ap (λ x. Some (Ins x c s)) (upto_stays (pos p) (pos q) m n (before_is_upto (pos p) (pos q) m n order));
        b_enabled = (omega (arith, ints), omega (arith, ints, length_p));
        a_enabled = (omega (arith, ints), omega (arith, ints, length_q));
        one_document = put_document (suc q) e t (after (Ins (pos p) c s) d)
            ∙ (ap (put (suc q) (live_cell e)) (put_document p c s d)
            ∙ (put-put p q (live_cell c) (live_cell e) d (omega (arith, ints, order.place)) fits_q
            ∙ sym (put_document p c s (after (Ins (pos q) e t) d) ∙ ap (put p (live_cell c)) (put_document q e t d))));
      }

  -- two insertions at one place, with one rank: they put one character
  alike_insertions : (d : List Cell) (p q c e s t : ℕ) → head.ins ≡ true → p ≤ length d → q ≤ length d
      → (by_site ≡ true → s ≢ t)
      → IsUpTo (pos p) (rank by_site c s) (pos q) (rank by_site e t)
      → IsUpTo (pos q) (rank by_site e t) (pos p) (rank by_site c s)
      → ConvergesAt (template_of head) d (Ins (pos p) c s) (Ins (pos q) e t)
  alike_insertions d p q c e s t ins fits_p fits_q apart h g =
      let m : ℕ = rank by_site c s in
      let n : ℕ = rank by_site e t in
      let same = one_place (pos p) (pos q) m n h g in
      let place : p ≡ q = omega (arith, ints, same.0) in
      let character : c ≡ e = one_character by_site c e s t same.1 apart in
      let length_p = length-put_document p c s d in
      let length_q = length-put_document q e t d in
      record {
        b_after_a = Ins (pos q) e t;
        a_after_b = Ins (pos p) c s;
        b_transformed = insertion_by_insertion head (pos q) (pos p) e c t s ins
            ∙ ap (λ x. Some (Ins x e t)) (upto_stays (pos q) (pos p) n m g);
        a_transformed = insertion_by_insertion head (pos p) (pos q) c e s t ins
            ∙ ap (λ x. Some (Ins x c s)) (upto_stays (pos p) (pos q) m n h);
        b_enabled = (omega (arith, ints), omega (arith, ints, length_p));
        a_enabled = (omega (arith, ints), omega (arith, ints, length_q));
        one_document = put_document q e t (after (Ins (pos p) c s) d)
            ∙ (ap (put q (live_cell e)) (put_document p c s d)
            ∙ (rw (place, character) refl
            ∙ sym (put_document p c s (after (Ins (pos q) e t) d) ∙ ap (put p (live_cell c)) (put_document q e t d))));
      }

  pub two_insertions : (d : List Cell) (p q c e s t : ℕ) → head.ins ≡ true → p ≤ length d → q ≤ length d
      → (by_site ≡ true → s ≢ t)
      → ConvergesAt (template_of head) d (Ins (pos p) c s) (Ins (pos q) e t)
  two_insertions d p q c e s t ins fits_p fits_q apart =
      elim (upto_or_behind (pos p) (pos q) (rank by_site c s) (rank by_site e t)) [
        | inr behind ↦ converges_exchanged (template_of head) d (Ins (pos q) e t) (Ins (pos p) c s)
            (ordered_insertions d q p e c t s ins fits_q fits_p behind)
        | inl upto ↦ elim (upto_or_behind (pos q) (pos p) (rank by_site e t) (rank by_site c s)) [
          | inr before ↦ ordered_insertions d p q c e s t ins fits_p fits_q before
          | inl other ↦ alike_insertions d p q c e s t ins fits_p fits_q apart upto other
        ]
      ]

  -- an insertion, and a change in front of it
  change_in_front : (d : List Cell) (o : Op) (p q c s : ℕ) → IsChange head o → IsDeclared head o
      → head.ins ≡ true → p ≤ length d → q < p
      → ConvergesAt (template_of head) d (Ins (pos p) c s) (placed o (pos q))
  change_in_front d o p q c s is of_o ins fits order =
      let m : ℕ = rank by_site c s in
      let length_p = length-put_document p c s d in
      let length_q = length-changed o q d is of_o in
      let before : IsUpTo (pos q) (m + 1) (pos p) m =
      record { place = omega (arith, ints); rank = λ e. omega (arith, ints) } in
      record {
        b_after_a = placed o (pos q);
        a_after_b = Ins (pos p) c s;
        b_transformed =
            cell_by_insertion head o (pos q) (pos p) c s (m + 1) (IsOnCell-change head o is) of_o ins (omega arith)
            ∙ ap (λ x. Some (placed o x)) (upto_stays (pos q) (pos p) (m + 1) m before);
        a_transformed = by_change head (Ins (pos p) c s) (placed o (pos q)) (IsChange-placed head o (pos q) is) ins
            (declared-placed head o (pos q) of_o);
        b_enabled =
            cell_enabled o q (length (after (Ins (pos p) c s) d)) (IsOnCell-change head o is) (omega (arith, length_p));
        a_enabled = (omega (arith, ints), omega (arith, ints, length_q));
        one_document = changed_put o p c s q d is of_o
            ∙ (alter-put (change_of o) p q (live_cell c) d order fits ∙ sym (put_changed o p c s q d is of_o));
      }

  -- an insertion, and a change at its place or behind it
  change_farther : (d : List Cell) (o : Op) (p q c s : ℕ) → IsChange head o → IsDeclared head o
      → head.ins ≡ true → q < length d → p ≤ q
      → ConvergesAt (template_of head) d (Ins (pos p) c s) (placed o (pos q))
  change_farther d o p q c s is of_o ins fits order =
      let m : ℕ = rank by_site c s in
      let length_p = length-put_document p c s d in
      let length_q = length-changed o q d is of_o in
      let before : IsBefore (pos p) m (pos q) (m + 1) =
      record { place = omega (arith, ints); rank = λ e. omega arith } in
      record {
        b_after_a = placed o (pos (suc q));
        a_after_b = Ins (pos p) c s;
        b_transformed =
            cell_by_insertion head o (pos q) (pos p) c s (m + 1) (IsOnCell-change head o is) of_o ins (omega arith)
            ∙ ap (λ x. Some (placed o x)) (behind_moves (pos q) (pos p) (m + 1) m before ∙ omega (arith, ints));
        a_transformed = by_change head (Ins (pos p) c s) (placed o (pos q)) (IsChange-placed head o (pos q) is) ins
            (declared-placed head o (pos q) of_o);
        b_enabled = cell_enabled o (suc q) (length (after (Ins (pos p) c s) d)) (IsOnCell-change head o is)
            (omega (arith, length_p));
        a_enabled = (omega (arith, ints), omega (arith, ints, length_q));
        one_document = changed_put o p c s (suc q) d is of_o
            ∙ (alter-put_behind (change_of o) p q (live_cell c) d order ∙ sym (put_changed o p c s q d is of_o));
      }

  pub insertion_and_change : (d : List Cell) (o : Op) (p q c s : ℕ) → IsChange head o
      → IsDeclared head o → head.ins ≡ true
      → p ≤ length d → q < length d → ConvergesAt (template_of head) d (Ins (pos p) c s) (placed o (pos q))
  insertion_and_change d o p q c s is of_o ins fits_p fits_q =
      elim (cases_lt q p) [
        | inl in_front ↦ change_in_front d o p q c s is of_o ins fits_p in_front
        | inr farther ↦ change_farther d o p q c s is of_o ins fits_q farther
      ]

  -- two changes that do not give way to one another and commute where they are of one cell
  pub both_change : (d : List Cell) (o x : Op) (p q : ℕ) → IsChange head o → IsChange head x
      → IsDeclared head o → IsDeclared head x
      → p < length d → q < length d
      → gives_way by_site (placed o (pos p)) (placed x (pos q)) ≡ false
      → gives_way by_site (placed x (pos q)) (placed o (pos p)) ≡ false
      → (p ≡ q → (y : Cell) → change_of x (change_of o y) ≡ change_of o (change_of x y))
      → ConvergesAt (template_of head) d (placed o (pos p)) (placed x (pos q))
  both_change d o x p q o_is x_is of_o of_x fits_p fits_q o_stays x_stays commute =
      let length_p = length-changed o p d o_is of_o in
      let length_q = length-changed x q d x_is of_x in
      record {
        b_after_a = placed x (pos q);
        a_after_b = placed o (pos p);
        b_transformed = by_change head (placed x (pos q)) (placed o (pos p)) (IsChange-placed head o (pos p) o_is)
            (declared-placed head x (pos q) of_x) (declared-placed head o (pos p) of_o)
            ∙ ap (λ (g : Bool). Some (if g then Nop else placed x (pos q))) x_stays;
        a_transformed = by_change head (placed o (pos p)) (placed x (pos q)) (IsChange-placed head x (pos q) x_is)
            (declared-placed head o (pos p) of_o) (declared-placed head x (pos q) of_x)
            ∙ ap (λ (g : Bool). Some (if g then Nop else placed o (pos p))) o_stays;
        b_enabled = cell_enabled x q (length (after (placed o (pos p)) d)) (IsOnCell-change head x x_is)
            (omega (arith, length_p));
        a_enabled = cell_enabled o p (length (after (placed x (pos q)) d)) (IsOnCell-change head o o_is)
            (omega (arith, length_q));
        one_document = changed_document x q (after (placed o (pos p)) d) x_is of_x
            ∙ (ap (alter (change_of x) q) (changed_document o p d o_is of_o)
            ∙ (alter-alter (change_of x) (change_of o) q p d (λ same. commute (sym same))
            ∙ sym (changed_document o p (after (placed x (pos q)) d) o_is of_o
            ∙ ap (alter (change_of o) p) (changed_document x q d x_is of_x))));
      }

  -- two updates of one cell, the first of which gives way to the second
  one_gives_way : (d : List Cell) (p q c e s t : ℕ) → head.upd ≡ true → p < length d → q < length d
      → gives_way by_site (Upd (pos p) c s) (Upd (pos q) e t) ≡ true
      → ConvergesAt (template_of head) d (Upd (pos p) c s) (Upd (pos q) e t)
  one_gives_way d p q c e s t upd fits_p fits_q gives =
      let m : ℕ = rank by_site c s in
      let n : ℕ = rank by_site e t in
      let one = update_gives_way (pos p) (pos q) m n gives in
      let place : p ≡ q = omega (arith, ints, one.0) in
      let lower : n < m = one.1 in
      let o : Op = Upd (pos p) c s in
      let x : Op = Upd (pos q) e t in
      let length_p = length-changed o p d tt upd in
      record {
        b_after_a = x;
        a_after_b = Nop;
        b_transformed = by_change head x o tt upd upd
            ∙ ap (λ (g : Bool). Some (if g then Nop else x)) (not_both (pos p) (pos q) m n lower);
        a_transformed = by_change head o x tt upd upd ∙ ap (λ (g : Bool). Some (if g then Nop else o)) gives;
        b_enabled = (omega (arith, ints), omega (arith, ints, length_p));
        a_enabled = tt;
        one_document = changed_document x q (after o d) tt upd
            ∙ (ap (alter (cell_with e) q) (changed_document o p d tt upd)
            ∙ (rw place (alter-over (cell_with e) (cell_with c) q d (λ y. refl))
            ∙ sym (changed_document x q d tt upd)));
      }

  -- two updates of one rank that do not give way are of one character
  pub two_updates : (d : List Cell) (p q c e s t : ℕ) → head.upd ≡ true → p < length d → q < length d
      → (by_site ≡ true → s ≢ t)
      → ConvergesAt (template_of head) d (Upd (pos p) c s) (Upd (pos q) e t)
  two_updates d p q c e s t upd fits_p fits_q apart =
      let m : ℕ = rank by_site c s in
      let n : ℕ = rank by_site e t in
      let o : Op = Upd (pos p) c s in
      let x : Op = Upd (pos q) e t in
      elim (cases_Bool (gives_way by_site o x)) [
        | inl gives ↦ one_gives_way d p q c e s t upd fits_p fits_q gives
        | inr o_stays ↦ elim (cases_Bool (gives_way by_site x o)) [
          | inl gives ↦
              converges_exchanged (template_of head) d x o (one_gives_way d q p e c t s upd fits_q fits_p gives)
          | inr x_stays ↦ both_change d o x p q tt tt upd upd fits_p fits_q o_stays x_stays
              (λ same y. ap (λ k. cell_with k y)
              (sym (one_character by_site c e s t (one_rank (pos p) (pos q) m n (ap pos same) o_stays x_stays) apart)))
        ]
      ]
