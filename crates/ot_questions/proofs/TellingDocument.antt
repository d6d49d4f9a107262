-- There is a document of each length that tells apart: two characters that no operation puts, one of them
-- at one place alone, and live cells but for the one that is to be dead.
use Rattle.std.proofs.Common.{◌≡◌, ◌≢◌, ℕ, zero, suc, ◌+◌, ◌<◌, ◌≤◌, ℤ, pos, negsuc, ◌+ℤ◌, Bool, true, false, not}
use Rattle.std.proofs.Common.{if◌then◌else◌, Option, Some, None, List, [], ◌∷◌, length, refl, ap, sym, ◌∙◌, inl, inr}
use Rattle.std.proofs.Common.{arith}
use Rattle.std.specs.Prelude.{slice_get, unwrap_or}
use Rattle.std.specs.Ordering.{int_eq}
use Rattle.std.proofs.lemmas.Bool.{cases_Bool}
use Rattle.std.proofs.lemmas.Bool.Decides.{Decides-int_eq}
use Rattle.ot_model.specs.declared.cell.Cell.{Cell}
use Rattle.ot_model.specs.declared.op.Op.{Op}
use Rattle.ot_model.specs.Operations.{char_of}
use Rattle.ot_questions.specs.Instances.{cell_in, TellsApart}

-- a document of n cells that are given by their places
abbrev pub made : ℕ → (ℕ → Cell) → List Cell
made zero h = []
made (suc n) h = h 0 ∷ made n (λ t. h (suc t))

pub length-made : (n : ℕ) (h : ℕ → Cell) → length (made n h) ≡ n
length-made zero h = refl
length-made (suc n) h = ap suc (length-made n (λ t. h (suc t)))

slice_get-made : (n : ℕ) (h : ℕ → Cell) (t : ℕ) (cell : Cell) → slice_get (made n h) t ≡ Some cell → h t ≡ cell
slice_get-made zero h t cell e = absurd (cc)
slice_get-made (suc n) h zero cell e = cc
slice_get-made (suc n) h (suc t) cell e = slice_get-made n (λ u. h (suc u)) t cell e

cell_in-made : (n : ℕ) (h : ℕ → Cell) (j : ℤ) (cell : Cell) → cell_in (made n h) j ≡ Some cell
    → (t : ℕ) × (j ≡ pos t) × (h t ≡ cell)
cell_in-made n h (pos t) cell e = (t, refl, slice_get-made n h t cell e)
cell_in-made n h (negsuc t) cell e = absurd (cc)

-- the place at an offset from the index, if there is one
abbrev pub is_read : ℤ → Option ℤ → ℕ → Bool
is_read i None t = false
is_read i (Some k) t = int_eq (pos t) (i +ℤ k)

-- a character that neither operation puts
abbrev pub fresh_for : Op → Op → ℕ
fresh_for a b = suc (unwrap_or (char_of a) 0 + unwrap_or (char_of b) 0)

abbrev pub one_of : ℕ → Bool → ℕ
one_of m alone = if alone then suc m else m

at_least : (m : ℕ) (alone : Bool) → m ≤ one_of m alone
at_least m true = omega arith
at_least m false = omega arith

alone_by_char : (m : ℕ) (here there : Bool) → one_of m here ≡ one_of m there → there ≡ true → here ≡ true
alone_by_char m true there e h = refl
alone_by_char m false true e h = absurd (omega arith)
alone_by_char m false false e h = h

abbrev pub telling_cell : Op → Op → ℤ → Option ℤ → Option ℤ → ℕ → Cell
telling_cell a b i left dead t =
    record { ch = one_of (fresh_for a b) (is_read i left t); live = not (is_read i dead t) }

abbrev pub telling : ℕ → Op → Op → ℤ → Option ℤ → Option ℤ → List Cell
telling n a b i left dead = made n (telling_cell a b i left dead)

not_put : (o : Option ℕ) (x : ℕ) → unwrap_or o 0 < x → o ≢ Some x
not_put None x h e = cc
not_put (Some y) x h e = let same : y ≡ x = cc in omega arith

fresh_first : (a b : Op) (alone : Bool) → unwrap_or (char_of a) 0 < one_of (fresh_for a b) alone
fresh_first a b alone = let more = at_least (fresh_for a b) alone in omega arith

fresh_second : (a b : Op) (alone : Bool) → unwrap_or (char_of b) 0 < one_of (fresh_for a b) alone
fresh_second a b alone = let more = at_least (fresh_for a b) alone in omega arith

read_there : (i k : ℤ) (read : Option ℤ) (t : ℕ) → read ≡ Some k → i +ℤ k ≡ pos t → is_read i read t ≡ true
read_there i k None t r e = absurd (cc)
read_there i k (Some j) t r e = let same : j ≡ k = cc in
    (Decides-int_eq (pos t) (i +ℤ j)).1 (sym (ap (λ o. i +ℤ o) same ∙ e))

there_read : (i k : ℤ) (read : Option ℤ) (t : ℕ) → read ≡ Some k → is_read i read t ≡ true → pos t ≡ i +ℤ k
there_read i k None t r e = absurd (cc)
there_read i k (Some j) t r e = let same : j ≡ k = cc in (Decides-int_eq (pos t) (i +ℤ j)).0 e ∙ ap (λ o. i +ℤ o) same

not_read_there : (i : ℤ) (read : Option ℤ) (t : ℕ) → ((k : ℤ) → read ≡ Some k → pos t ≢ i +ℤ k)
    → is_read i read t ≡ false
not_read_there i None t apart = refl
not_read_there i (Some k) t apart =
    elim (cases_Bool (int_eq (pos t) (i +ℤ k))) [
      | inl same ↦ absurd (apart k refl ((Decides-int_eq (pos t) (i +ℤ k)).0 same))
      | inr other ↦ other
    ]

-- the document that is made for this tells apart
pub telling_tells : (n : ℕ) (a b : Op) (i : ℤ) (left dead : Option ℤ)
    → TellsApart (telling n a b i left dead) a b i left dead
telling_tells n a b i left dead = record {
  live = λ j cell here apart.
      let at = cell_in-made n (telling_cell a b i left dead) j cell here in
      sym (ap (λ x. x.live) at.2) ∙ ap not (not_read_there i dead at.0 (λ k e same. apart k e (at.1 ∙ same)));
  dies = λ k cell e here.
      let at = cell_in-made n (telling_cell a b i left dead) (i +ℤ k) cell here in
      sym (ap (λ x. x.live) at.2) ∙ ap not (read_there i k dead at.0 e at.1);
  fresh = λ j cell here.
      let at = cell_in-made n (telling_cell a b i left dead) j cell here in (
        λ put. not_put (char_of a) _ (fresh_first a b (is_read i left at.0)) (put ∙ ap (λ x. Some x.ch) (sym at.2)),
        λ put. not_put (char_of b) _ (fresh_second a b (is_read i left at.0)) (put ∙ ap (λ x. Some x.ch) (sym at.2)),
      );
  alone = λ j k cell other r here there chars.
      let at = cell_in-made n (telling_cell a b i left dead) j cell here in
      let left_at = cell_in-made n (telling_cell a b i left dead) (i +ℤ k) other there in
      at.1
      ∙ there_read i k left at.0 r
      (alone_by_char (fresh_for a b) (is_read i left at.0) (is_read i left left_at.0)
      (ap (λ x. x.ch) at.2 ∙ (chars ∙ ap (λ x. x.ch) (sym left_at.2)))
      (read_there i k left left_at.0 r left_at.1));
}
