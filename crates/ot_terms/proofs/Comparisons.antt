-- Two cells are found the same at a valuation exactly where they are the same for every base document: where
-- they are not, one document tells them apart.
use Rattle.std.proofs.Common.{◌≡◌, ◌↔◌, ℕ, ℤ, pos, ◌+ℤ◌, Bool, true, false, if◌then◌else◌, [], ◌∷◌, None, refl, ap, sym}
use Rattle.std.proofs.Common.{◌∙◌, arith}
use Rattle.std.proofs.lemmas.Int.{ints}
use Rattle.std.proofs.lemmas.Bool.{false≢true}
use Rattle.std.specs.Ordering.{int_eq}
use Rattle.fn_rules.specs.Functions.{Function}
use Rattle.ask_core.specs.Plans.{Plan, Holds, Fails, end_of}
use Rattle.ot_questions.specs.declared.cell.Finished.{Finished}
use Rattle.ot_questions.specs.declared.cell.Flag.{Flag}
use Rattle.ot_questions.specs.declared.cell.Flag.TheVariants.{Live, Dead, From}
use Rattle.ot_questions.specs.declared.cell.Source.{Source}
use Rattle.ot_questions.specs.declared.cell.Source.TheVariants.{Base, Named}
use Rattle.ot_questions.specs.declared.why.Why.{Why}
use Rattle.ot_questions.specs.Places.{place}
use Rattle.ot_questions.specs.Reading.{is_same_flag, ask_same_source, ask_same, cells_cause}
use Rattle.ot_questions.proofs.Values.{end-eq, if_end}
use Rattle.ot_terms.specs.Cells.{CellTree}
use Rattle.ot_terms.specs.Goals as goals
use Rattle.ot_terms.specs.Meaning.{IntegerCell, BaseDocument, base_cell_at, cell_of}
use Rattle.ot_terms.specs.Standing.{ask_read, ask_goal}
use Rattle.ot_terms.specs.Belonging.{IsCellOf}
use Rattle.ot_terms.proofs.ReadCells.{read_of, end-read, source_at, flag_at, finished_at, read_cell}

abbrev numbered : ℤ → Bool → IntegerCell
numbered c live = record { ch = c; live = live }

-- a document of one cell everywhere
abbrev everywhere : ℤ → Bool → BaseDocument
everywhere c live = record { placed = []; elsewhere = numbered c live }

-- a document whose cell at a number differs from all others
abbrev alone_at : ℤ → BaseDocument
alone_at j = record { placed = (j, numbered (pos 1) true) ∷ []; elsewhere = numbered (pos 0) false }

abbrev alone_if : Bool → IntegerCell
alone_if t = if t then numbered (pos 1) true else numbered (pos 0) false

int_eq-same : (x : ℤ) → int_eq x x ≡ true
int_eq-same x = grind (arith, ints)

int_eq-shifted : (x j k : ℤ) → int_eq (x +ℤ j) (x +ℤ k) ≡ true → int_eq j k ≡ true
int_eq-shifted x j k h = grind (arith, ints)

int_eq-shifted_back : (x j k : ℤ) → int_eq j k ≡ true → x +ℤ j ≡ x +ℤ k
int_eq-shifted_back x j k h = grind (arith, ints)

int_eq-of_equal : (x y : ℤ) → x ≡ y → int_eq (x +ℤ pos 0) (y +ℤ pos 0) ≡ true
int_eq-of_equal x y h = grind (arith, ints)

equal-int_eq : (x y : ℤ) → int_eq (x +ℤ pos 0) (y +ℤ pos 0) ≡ true → x ≡ y
equal-int_eq x y h = grind (arith, ints)

next_differs : (x : ℤ) → x +ℤ pos 1 ≡ x → false ≡ true
next_differs x h = grind (arith, ints)

alone_by_flag : (s t : Bool) → s ≡ true → (alone_if s).live ≡ (alone_if t).live → t ≡ true
alone_by_flag true true e h = refl
alone_by_flag true false e h = sym h
alone_by_flag false t e h = absurd (false≢true e)

alone_by_char : (s t : Bool) → s ≡ true → (alone_if s).ch ≡ (alone_if t).ch → t ≡ true
alone_by_char true true e h = refl
alone_by_char true false e h = ap (λ z. int_eq z (pos 0)) h
alone_by_char false t e h = absurd (false≢true e)

if_true : (b : Bool) (p q : Plan Why) (v : ℕ → ℤ) → b ≡ true → end_of (if b then p else q) v ≡ end_of p v
if_true true p q v e = refl
if_true false p q v e = absurd (false≢true e)

-- what ends in `Holds` by a test
test_of_end :
    (b : Bool) (p : Plan Why) (why : Why) (v : ℕ → ℤ)
    → end_of (if b then p else Fails why) v ≡ None → (b ≡ true) × (end_of p v ≡ None)
test_of_end true p why v e = (refl, e)
test_of_end false p why v e = absurd (cc)

module _ (v : ℕ → ℤ) where
  -- flags that are the same for every base document are found the same
  flags_found : (l m : Flag) → ((base : BaseDocument) → flag_at base v l ≡ flag_at base v m) → is_same_flag l m ≡ true
  flags_found Live Live h = refl
  flags_found Live Dead h = sym (h (everywhere (pos 0) true))
  flags_found Live (From off) h = sym (h (everywhere (pos 0) false))
  flags_found Dead Live h = h (everywhere (pos 0) true)
  flags_found Dead Dead h = refl
  flags_found Dead (From off) h = h (everywhere (pos 0) true)
  flags_found (From off) Live h = h (everywhere (pos 0) false)
  flags_found (From off) Dead h = sym (h (everywhere (pos 0) true))
  flags_found (From off) (From other) h =
      int_eq-shifted (v 2) off other
      (alone_by_flag (int_eq (v 2 +ℤ off) (v 2 +ℤ off)) (int_eq (v 2 +ℤ off) (v 2 +ℤ other)) (int_eq-same (v 2 +ℤ off))
      (h (alone_at (v 2 +ℤ off))))

  flags_equal : (l m : Flag) → is_same_flag l m ≡ true → (base : BaseDocument) → flag_at base v l ≡ flag_at base v m
  flags_equal Live Live e base = refl
  flags_equal Live Dead e base = absurd (false≢true e)
  flags_equal Live (From off) e base = absurd (false≢true e)
  flags_equal Dead Live e base = absurd (false≢true e)
  flags_equal Dead Dead e base = refl
  flags_equal Dead (From off) e base = absurd (false≢true e)
  flags_equal (From off) Live e base = absurd (false≢true e)
  flags_equal (From off) Dead e base = absurd (false≢true e)
  flags_equal (From off) (From other) e base =
      ap (λ j. (base_cell_at base j).live) (int_eq-shifted_back (v 2) off other e)

  -- characters that are the same for every base document are found the same
  sources_found :
      (s t : Source) (why : Why) → ((base : BaseDocument) → source_at base v s ≡ source_at base v t)
      → end_of (ask_same_source s t (Fails why)) v ≡ None
  unfolding ask_same_source
  sources_found (Base off) (Base there) why h =
      if_true (int_eq off there) Holds (Fails why) v
      (int_eq-shifted (v 2) off there
      (alone_by_char (int_eq (v 2 +ℤ off) (v 2 +ℤ off)) (int_eq (v 2 +ℤ off) (v 2 +ℤ there)) (int_eq-same (v 2 +ℤ off))
      (h (alone_at (v 2 +ℤ off)))))
  sources_found (Base off) (Named d) why h =
      absurd (false≢true (next_differs (v d) (h (everywhere (v d +ℤ pos 1) true))))
  sources_found (Named c) (Base off) why h =
      absurd (false≢true (next_differs (v c) (sym (h (everywhere (v c +ℤ pos 1) true)))))
  sources_found (Named c) (Named d) why h =
      let same = int_eq (v c +ℤ pos 0) (v d +ℤ pos 0) in
      end-eq (place c (pos 0)) (place d (pos 0)) Holds (Fails why) v
      ∙ (sym (if_end same Holds (Fails why) v)
      ∙ if_true same Holds (Fails why) v (int_eq-of_equal (v c) (v d) (h (everywhere (pos 0) true))))

  -- characters that are found the same are the same for every base document
  sources_equal :
      (s t : Source) (why : Why) → end_of (ask_same_source s t (Fails why)) v ≡ None
      → (base : BaseDocument) → source_at base v s ≡ source_at base v t
  unfolding ask_same_source
  sources_equal (Base off) (Base there) why e base =
      ap (λ j. (base_cell_at base j).ch)
      (int_eq-shifted_back (v 2) off there (test_of_end (int_eq off there) Holds why v e).0)
  sources_equal (Base off) (Named d) why e base = absurd (cc)
  sources_equal (Named c) (Base off) why e base = absurd (cc)
  sources_equal (Named c) (Named d) why e base =
      equal-int_eq (v c) (v d)
      (test_of_end (int_eq (v c +ℤ pos 0) (v d +ℤ pos 0)) Holds why v
      (if_end (int_eq (v c +ℤ pos 0) (v d +ℤ pos 0)) Holds (Fails why) v
      ∙ (sym (end-eq (place c (pos 0)) (place d (pos 0)) Holds (Fails why) v) ∙ e))).0

  pub found_where_same :
      (x y : Finished) → ((base : BaseDocument) → finished_at base v x ≡ finished_at base v y)
      → end_of (ask_same x y) v ≡ None
  unfolding ask_same
  found_where_same x y h =
      if_true (is_same_flag x.flag y.flag) (ask_same_source x.source y.source (Fails (cells_cause x y)))
      (Fails (cells_cause x y)) v (flags_found x.flag y.flag (λ base. ap (λ cell. cell.live) (h base)))
      ∙ sources_found x.source y.source (cells_cause x y) (λ base. ap (λ cell. cell.ch) (h base))

  pub same_where_found :
      (x y : Finished) → end_of (ask_same x y) v ≡ None
      → (base : BaseDocument) → finished_at base v x ≡ finished_at base v y
  unfolding ask_same
  same_where_found x y e base =
      let cause = cells_cause x y in
      let tested = test_of_end (is_same_flag x.flag y.flag)
      (ask_same_source x.source y.source (Fails cause)) cause v e in
      ap (λ c. numbered c (flag_at base v x.flag)) (sources_equal x.source y.source (cells_cause x y) tested.1 base)
      ∙ ap (numbered (source_at base v y.source)) (flags_equal x.flag y.flag tested.0 base)

  -- of two cells of the mode
  end-compared :
      (f : Function) (left right : CellTree)
      → end_of (ask_goal f (goals.Same left right)) v
      ≡ end_of (ask_same (read_of v f.head.mode left) (read_of v f.head.mode right)) v
  unfolding ask_goal
  end-compared f left right =
      end-read f.head.mode left (λ x. ask_read f.head.mode right (λ y. ask_same x y)) v
      ∙ end-read f.head.mode right (λ y. ask_same (read_of v f.head.mode left) y) v

  -- the comparison ends with no cause exactly where the cells are the same for every base document
  pub compared_over_all :
      (f : Function) (count : ℕ) (left right : CellTree)
      → IsCellOf f.head.mode count left → IsCellOf f.head.mode count right
      → (end_of (ask_goal f (goals.Same left right)) v ≡ None) ↔ ((base : BaseDocument)
      → cell_of base v left ≡ cell_of base v right)
  compared_over_all f count left right hl hr = (
    (λ e base.
        read_cell base v f.head.mode count left hl
        ∙ (same_where_found (read_of v f.head.mode left) (read_of v f.head.mode right)
        (sym (end-compared f left right) ∙ e) base
        ∙ sym (read_cell base v f.head.mode count right hr))),
    (λ h.
        end-compared f left right
        ∙ found_where_same (read_of v f.head.mode left) (read_of v f.head.mode right)
        (λ base. sym (read_cell base v f.head.mode count left hl)
        ∙ (h base ∙ read_cell base v f.head.mode count right hr))),
  )
