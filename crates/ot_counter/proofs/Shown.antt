-- The document of a counterexample shows the cause: where the characters of the operations are others than
-- `x` and `y`, it tells apart what final documents have at the index.
use Rattle.std.proofs.Common.{◌≡◌, ◌≢◌, ℕ, zero, suc, ◌+◌, ℤ, pos, negsuc, ◌+ℤ◌, Bool, true, false, not, if◌then◌else◌}
use Rattle.std.proofs.Common.{Option, Some, None, List, [], ◌∷◌, ◌++◌, length, refl, ap, sym, ◌∙◌, inl, inr, arith}
use Rattle.std.proofs.Common.{add-one}
use Rattle.std.specs.Prelude.{slice_get, unsigned_abs}
use Rattle.std.specs.Ordering.{int_eq}
use Rattle.std.proofs.lemmas.Bool.{cases_Bool}
use Rattle.std.proofs.lemmas.Bool.Decides.{Decides-int_eq}
use Rattle.ot_model.specs.declared.cell.Cell.{Cell}
use Rattle.ot_model.specs.declared.op.Op.{Op}
use Rattle.ot_model.specs.declared.op.Kind.{Kind}
use Rattle.ot_model.specs.declared.op.Kind.TheVariants as kinds
use Rattle.ot_model.specs.Operations.{char_of}
use Rattle.ot_questions.specs.declared.name.Who.{Who}
use Rattle.ot_questions.specs.declared.why.Why.{Why}
use Rattle.ot_questions.specs.declared.why.Why.TheVariants.{Undefined, OutOfRange, Lengths, Cells, Operations}
use Rattle.ot_questions.specs.Names.{char_name}
use Rattle.ot_questions.specs.Places.{sym_op}
use Rattle.ot_questions.specs.Meaning.{op_at}
use Rattle.ot_questions.specs.Instances.{cell_in, TellsApart, ShowsCause}
use Rattle.ot_counter.specs.Documents.{is_at, shown_cell, cells_by_place, document_at}

pub length-placed : (n : ℕ) (h : ℕ → Cell) → length (cells_by_place n h) ≡ n
length-placed zero h = refl
length-placed (suc n) h = ap suc (length-placed n (λ t. h (suc t)))

-- one more cell at the end
pub placed-more : (n : ℕ) (h : ℕ → Cell) → cells_by_place n h ++ h n ∷ [] ≡ cells_by_place (suc n) h
placed-more zero h = refl
placed-more (suc n) h = ap (λ cells. h 0 ∷ cells) (placed-more n (λ t. h (suc t)))

slice_get-placed : (n : ℕ) (h : ℕ → Cell) (t : ℕ) (cell : Cell)
    → slice_get (cells_by_place n h) t ≡ Some cell → h t ≡ cell
slice_get-placed zero h t cell e = absurd (cc)
slice_get-placed (suc n) h zero cell e = cc
slice_get-placed (suc n) h (suc t) cell e = slice_get-placed n (λ u. h (suc u)) t cell e

cell_in-placed :
    (n : ℕ) (h : ℕ → Cell) (j : ℤ) (cell : Cell) → cell_in (cells_by_place n h) j ≡ Some cell
    → (t : ℕ) × (j ≡ pos t) × (h t ≡ cell)
cell_in-placed n h (pos t) cell e = (t, refl, slice_get-placed n h t cell e)
cell_in-placed n h (negsuc t) cell e = absurd (cc)

-- the place at an offset, and no other
at_there : (i k : ℤ) (read : Option ℤ) (t : ℕ) → read ≡ Some k → i +ℤ k ≡ pos t → is_at i read t ≡ true
at_there i k None t r e = absurd (cc)
at_there i k (Some j) t r e = let same : j ≡ k = cc in
    (Decides-int_eq (pos t) (i +ℤ j)).1 (sym (ap (λ o. i +ℤ o) same ∙ e))

there_at : (i k : ℤ) (read : Option ℤ) (t : ℕ) → read ≡ Some k → is_at i read t ≡ true → pos t ≡ i +ℤ k
there_at i k None t r e = absurd (cc)
there_at i k (Some j) t r e = let same : j ≡ k = cc in (Decides-int_eq (pos t) (i +ℤ j)).0 e ∙ ap (λ o. i +ℤ o) same

not_at : (i : ℤ) (read : Option ℤ) (t : ℕ) → ((k : ℤ) → read ≡ Some k → pos t ≢ i +ℤ k) → is_at i read t ≡ false
not_at i None t apart = refl
not_at i (Some k) t apart =
    elim (cases_Bool (int_eq (pos t) (i +ℤ k))) [
      | inl same ↦ absurd (apart k refl ((Decides-int_eq (pos t) (i +ℤ k)).0 same))
      | inr other ↦ other
    ]

abbrev letter : Bool → ℕ
letter read = if read then 120 else 121

alone_by_letter : (here there : Bool) → letter here ≡ letter there → there ≡ true → here ≡ true
alone_by_letter true there e h = refl
alone_by_letter false true e h = absurd (omega arith)
alone_by_letter false false e h = h

-- a character that no cell of the document has
pub record IsFresh (o : Option ℕ) : Type 0 where
  pub not_x : o ≢ Some 120
  pub not_y : o ≢ Some 121

no_letter : (o : Option ℕ) (read : Bool) → IsFresh o → o ≢ Some (letter read)
no_letter o true h = h.not_x
no_letter o false h = h.not_y

module _ (n : ℕ) (a b : Op) (i : ℤ) (left dead : Option ℤ) (fresh_a : IsFresh (char_of a))
    (fresh_b : IsFresh (char_of b)) where
  abbrev cell_at : ℕ → Cell
  cell_at t = shown_cell i (Cells left dead) t

  -- the document of a counterexample tells apart what is read at the index
  tells_apart : TellsApart (cells_by_place n cell_at) a b i left dead
  tells_apart = record {
    live = λ j cell here apart.
        let at = cell_in-placed n cell_at j cell here in
        sym (ap (λ x. x.live) at.2) ∙ ap not (not_at i dead at.0 (λ k e same. apart k e (at.1 ∙ same)));
    dies = λ k cell e here.
        let at = cell_in-placed n cell_at (i +ℤ k) cell here in
        sym (ap (λ x. x.live) at.2) ∙ ap not (at_there i k dead at.0 e at.1);
    fresh = λ j cell here.
        let at = cell_in-placed n cell_at j cell here in (
          λ put. no_letter (char_of a) (is_at i left at.0) fresh_a (put ∙ ap (λ x. Some x.ch) (sym at.2)),
          λ put. no_letter (char_of b) (is_at i left at.0) fresh_b (put ∙ ap (λ x. Some x.ch) (sym at.2)),
        );
    alone = λ j k cell other r here there chars.
        let at = cell_in-placed n cell_at j cell here in
        let left_at = cell_in-placed n cell_at (i +ℤ k) other there in
        at.1
        ∙ there_at i k left at.0 r
        (alone_by_letter (is_at i left at.0) (is_at i left left_at.0)
        (ap (λ x. x.ch) at.2 ∙ (chars ∙ ap (λ x. x.ch) (sym left_at.2)))
        (at_there i k left left_at.0 r left_at.1));
  }

pub length-document_at : (v : ℕ → ℤ) (why : Why) → length (document_at v why) ≡ unsigned_abs (v 1)
length-document_at v why = length-placed (unsigned_abs (v 1)) (shown_cell (v 2) why)

pub document_shows :
    (v : ℕ → ℤ) (a b : Op) (why : Why) → IsFresh (char_of a) → IsFresh (char_of b)
    → ShowsCause (document_at v why) a b (v 2) why
document_shows v a b Undefined fa fb = tt
document_shows v a b OutOfRange fa fb = tt
document_shows v a b Lengths fa fb = tt
document_shows v a b (Cells left dead) fa fb = tells_apart (unsigned_abs (v 1)) a b (v 2) left dead fa fb
document_shows v a b Operations fa fb = tt

-- the character of a name that is neither `x` nor `y`
fresh_some : (n m : ℕ) → n ≢ m → Some n ≢ Some m
fresh_some n m h e = h (same n m e)
  where
    same : (n m : ℕ) → Some n ≡ Some m → n ≡ m
    same n m e = cc

none_some : (o : Option ℕ) (m : ℕ) → o ≡ None → o ≢ Some m
none_some o m h e = cc

pub fresh_at :
    (v : ℕ → ℤ) (k : Kind) (who : Who) → unsigned_abs (v (char_name who)) ≢ 120 → unsigned_abs (v (char_name who)) ≢ 121
    → IsFresh (char_of (op_at v (sym_op k who)))
fresh_at v kinds.Ins who hx hy = record { not_x = fresh_some _ 120 hx; not_y = fresh_some _ 121 hy }
fresh_at v kinds.Del who hx hy = record { not_x = none_some None 120 refl; not_y = none_some None 121 refl }
fresh_at v kinds.Upd who hx hy = record { not_x = fresh_some _ 120 hx; not_y = fresh_some _ 121 hy }

-- the next cell of a document that is made place by place
pub placed-next :
    (n : ℕ) (h : ℕ → Cell) (doc next : List Cell) (cell : Cell) → doc ≡ cells_by_place n h → cell ≡ h n
    → next ≡ doc ++ cell ∷ []
    → next ≡ cells_by_place (n + 1) h
placed-next n h doc next cell e f g =
    g ∙ (ap (λ cells. cells ++ cell ∷ []) e
    ∙ (ap (λ x. cells_by_place n h ++ x ∷ []) f ∙ (placed-more n h ∙ rw add-one refl)))
