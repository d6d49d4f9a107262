-- Documents that tell apart: on one of them two cells that were read have one meaning only where they are
-- found the same. A base cell that was read and differs from the other cell shows it by its character, a half
-- cell by its flag.
use Rattle.std.proofs.Common.{◌≡◌, ◌≢◌, ℕ, length, ℤ, pos, negsuc, ◌+ℤ◌, Bool, true, false, if◌then◌else◌, get_or}
use Rattle.std.proofs.Common.{Option, Some, None, List, refl, ap, sym, ◌∙◌, inl, inr, ◌⊎◌, arith}
use Rattle.std.specs.Prelude.{unsigned_abs}
use Rattle.std.specs.Ordering.{int_eq}
use Rattle.std.proofs.lemmas.Bool.{cases_lt, cases_Bool, false≢true}
use Rattle.std.proofs.lemmas.Bool.Decides.{Decides-int_eq}
use Rattle.std.proofs.lemmas.Int.{ints}
use Rattle.std.proofs.lemmas.List.{get_or_past}
use Rattle.std.proofs.lemmas.Option.{slice_get-get_or, get_or_from_slice_get}
use Rattle.ot_model.specs.declared.cell.Cell.{Cell}
use Rattle.ask_core.specs.Plans.{Holds, Fails, end_of}
use Rattle.ot_questions.specs.declared.cell.Source.{Source}
use Rattle.ot_questions.specs.declared.cell.Source.TheVariants.{Base, Named}
use Rattle.ot_questions.specs.declared.cell.Flag.{Flag}
use Rattle.ot_questions.specs.declared.cell.Flag.TheVariants.{Live, Dead, From}
use Rattle.ot_questions.specs.declared.cell.Finished.{Finished}
use Rattle.ot_questions.specs.declared.why.Why.{Why}
use Rattle.ot_questions.specs.Places.{place}
use Rattle.ot_questions.specs.Reading.{is_same_flag, ask_same_source, ask_same, base_of_flag, base_read, dead_of_half}
use Rattle.ot_questions.specs.Reading.{dead_read, cells_cause}
use Rattle.ot_questions.specs.Instances.{cell_in}
use Rattle.ot_questions.proofs.Values.{end-eq, by_test}
use Rattle.ot_questions.proofs.Operations.{IsCount}
use Rattle.ot_questions.proofs.Documents.{cell_at}
use Rattle.ot_questions.proofs.Seen.{source_meant, flag_meant, meant}

-- the flags that a cell may have that was read, by where its character comes from
abbrev pub IsReadFlag : Source → Flag → Type 0
IsReadFlag (Base k) Live = ⊥
IsReadFlag (Base k) Dead = Unit {0}
IsReadFlag (Base k) (From j) = j ≡ k
IsReadFlag (Named c) flag = Unit {0}

-- the character of a name is in no cell of the document
abbrev pub IsFreshName : (ℕ → ℤ) → List Cell → ℕ → Type 0
IsFreshName v d c = IsCount (v c) × ((j : ℤ) (cell : Cell) → cell_in d j ≡ Some cell → unsigned_abs (v c) ≢ cell.ch)

abbrev pub IsFreshSource : (ℕ → ℤ) → List Cell → Source → Type 0
IsFreshSource v d (Base k) = Unit {0}
IsFreshSource v d (Named c) = IsFreshName v d c

-- the document has a cell at the index
abbrev pub HasCell : List Cell → ℤ → Type 0
HasCell d j = (cell : Cell) × (cell_in d j ≡ Some cell)

-- it has the cell at a base place that was read
abbrev pub IsToldSource : (ℕ → ℤ) → List Cell → Source → Type 0
IsToldSource v d (Base k) = HasCell d (v 2 +ℤ k)
IsToldSource v d (Named c) = IsFreshName v d c

abbrev pub IsToldFlag : (ℕ → ℤ) → List Cell → Flag → Type 0
IsToldFlag v d Live = Unit {0}
IsToldFlag v d Dead = Unit {0}
IsToldFlag v d (From k) = HasCell d (v 2 +ℤ k)

pub told_source :
    (v : ℕ → ℤ) (d : List Cell) (s : Source) → IsFreshSource v d s → ((k : ℤ) → s ≡ Base k → IsToldSource v d (Base k))
    → IsToldSource v d s
told_source v d (Base k) fresh inside = inside k refl
told_source v d (Named c) fresh inside = fresh

pub told_flag : (v : ℕ → ℤ) (d : List Cell) (flag : Flag)
    → ((k : ℤ) → flag ≡ From k → HasCell d (v 2 +ℤ k)) → IsToldFlag v d flag
told_flag v d Live inside = tt
told_flag v d Dead inside = tt
told_flag v d (From k) inside = inside k refl

-- what the offsets of a cause were read from
flag_base : (flag : Flag) (k : ℤ) → base_of_flag flag ≡ Some k → flag ≡ From k
flag_base Live k e = absurd (cc)
flag_base Dead k e = absurd (cc)
flag_base (From j) k e = cc

pub read_base : (s : Source) (flag : Flag) (k : ℤ) → base_read s flag ≡ Some k → (s ≡ Base k) ⊎ (flag ≡ From k)
read_base (Base j) flag k e = inl (cc)
read_base (Named c) flag k e = inr (flag_base flag k e)

some_of : (t : Bool) (j k : ℤ) → (if t then None else Some j) ≡ Some k → j ≡ k
some_of true j k e = absurd (cc)
some_of false j k e = cc

half_base : (l m : Flag) (k : ℤ) → dead_of_half l m ≡ Some k → (l ≡ From k) ⊎ (m ≡ From k)
half_base Live Live k e = absurd (cc)
half_base Live Dead k e = absurd (cc)
half_base Live (From i) k e = inr (cc)
half_base Dead m k e = absurd (cc)
half_base (From i) Live k e = inl (cc)
half_base (From i) Dead k e = absurd (cc)
half_base (From i) (From j) k e = inl (ap From (some_of (int_eq i j) i k e))

pub read_dead : (s t : Source) (l m : Flag) (k : ℤ) → dead_read s t l m ≡ Some k → (l ≡ From k) ⊎ (m ≡ From k)
read_dead (Base j) t l m k e = absurd (cc)
read_dead (Named c) (Base j) l m k e = absurd (cc)
read_dead (Named c) (Named d) l m k e = half_base l m k e

pub record IsTold (v : ℕ → ℤ) (d : List Cell) (x : Finished) : Type 0 where
  pub flag : IsReadFlag x.source x.flag
  pub source : IsToldSource v d x.source
  pub base : IsToldFlag v d x.flag

pub dead_flag : (s : Source) → IsReadFlag s Dead
dead_flag (Base k) = tt
dead_flag (Named c) = tt

-- a cell of the document, whatever the blank
pub cell_at-in : (d : List Cell) (z : ℤ) (b cell : Cell) → cell_in d z ≡ Some cell → cell_at b d z ≡ cell
cell_at-in d (pos t) b cell e = get_or_from_slice_get d t cell b e
cell_at-in d (negsuc t) b cell e = absurd (cc)

-- a place of whose cell a part does not depend on the blank lies within: two blanks would show
pub within_by_blanks :
    {X : Type 0} (part : Cell → X) (x y : Cell) → part x ≢ part y → (d : List Cell) (z : ℤ)
    → ((b c : Cell) → part (cell_at b d z) ≡ part (cell_at c d z)) → HasCell d z
within_by_blanks part x y apart d (negsuc t) free = absurd (apart (free x y))
within_by_blanks part x y apart d (pos t) free =
    elim (cases_lt t (length d)) [
      | inl lt ↦ (get_or d t x, slice_get-get_or d t x lt)
      | inr past ↦
          absurd (apart (sym (ap part (get_or_past d t x (omega arith)))
          ∙ (free x y ∙ ap part (get_or_past d t y (omega arith)))))
    ]

-- a plan of cells that are compared ends in none or in the cause
pub same_source_ends :
    (v : ℕ → ℤ) (s t : Source) (why : Why)
    → (end_of (ask_same_source s t (Fails why)) v ≡ None) ⊎ (end_of (ask_same_source s t (Fails why)) v ≡ Some why)
unfolding ask_same_source
same_source_ends v (Base j) (Base k) why =
    elim (cases_Bool (int_eq j k)) [
      | inl same ↦ rw same (inl refl)
      | inr other ↦ rw other (inr refl)
    ]
same_source_ends v (Base j) (Named d) why = inr refl
same_source_ends v (Named c) (Base k) why = inr refl
same_source_ends v (Named c) (Named d) why =
    elim (cases_Bool (int_eq (v c +ℤ pos 0) (v d +ℤ pos 0))) [
      | inl same ↦ inl (end-eq (place c (pos 0)) (place d (pos 0)) Holds (Fails why) v
          ∙ ap (λ t. by_test t Holds (Fails why) v) same)
      | inr other ↦ inr (end-eq (place c (pos 0)) (place d (pos 0)) Holds (Fails why) v
          ∙ ap (λ t. by_test t Holds (Fails why) v) other)
    ]

pub same_ends :
    (v : ℕ → ℤ) (x y : Finished) → (end_of (ask_same x y) v ≡ None) ⊎ (end_of (ask_same x y) v ≡ Some (cells_cause x y))
unfolding ask_same
same_ends v x y =
    elim (cases_Bool (is_same_flag x.flag y.flag)) [
      | inl flags ↦ rw flags (same_source_ends v x.source y.source (cells_cause x y))
      | inr other ↦ rw other (inr refl)
    ]

same_offsets : (i j k : ℤ) → i +ℤ j ≡ i +ℤ k → j ≡ k
same_offsets i j k e = omega (arith, ints)

no_offset : (dead : Option ℤ) (k : ℤ) → dead ≡ None → dead ≡ Some k → ⊥
no_offset dead k e h = cc

one_offset : (dead : Option ℤ) (j k : ℤ) → dead ≡ Some j → dead ≡ Some k → j ≡ k
one_offset dead j k e h = cc

-- in a document whose cells live, but for the one at the offset that is to be dead
module _ (v : ℕ → ℤ) (d : List Cell) (b : Cell) (dead : Option ℤ)
    (lives : (j : ℤ) (cell : Cell) → cell_in d j ≡ Some cell
    → ((k : ℤ) → dead ≡ Some k → j ≢ v 2 +ℤ k) → cell.live ≡ true)
    (dies : (k : ℤ) (cell : Cell) → dead ≡ Some k → cell_in d (v 2 +ℤ k) ≡ Some cell → cell.live ≡ false) where
  base_lives : (k : ℤ) → ((m : ℤ) → dead ≡ Some m → k ≢ m) → HasCell d (v 2 +ℤ k) → (cell_at b d (v 2 +ℤ k)).live ≡ true
  base_lives k other has =
      ap (λ x. x.live) (cell_at-in d (v 2 +ℤ k) b has.0 has.1)
      ∙ lives (v 2 +ℤ k) has.0 has.1 (λ m e same. other m e (same_offsets (v 2) k m same))

  base_dies : (k : ℤ) → dead ≡ Some k → HasCell d (v 2 +ℤ k) → (cell_at b d (v 2 +ℤ k)).live ≡ false
  base_dies k e has = ap (λ x. x.live) (cell_at-in d (v 2 +ℤ k) b has.0 has.1) ∙ dies k has.0 e has.1

  -- none is to be dead
  all_live : dead ≡ None → (k : ℤ) → HasCell d (v 2 +ℤ k) → (cell_at b d (v 2 +ℤ k)).live ≡ true
  all_live none k has = base_lives k (λ m e same. no_offset dead m none e) has

  -- flags of one base cell that was read are found the same, where no cell is to be dead
  base_flags :
      (j k : ℤ) (l m : Flag) → j ≡ k → dead ≡ None → HasCell d (v 2 +ℤ j) → HasCell d (v 2 +ℤ k) → IsReadFlag (Base j) l
      → IsReadFlag (Base k) m → flag_meant v (cell_at b d) l ≡ flag_meant v (cell_at b d) m → is_same_flag l m ≡ true
  base_flags j k Live m e none tj tk hl hm same = absurd hl
  base_flags j k Dead Live e none tj tk hl hm same = absurd hm
  base_flags j k Dead Dead e none tj tk hl hm same = refl
  base_flags j k Dead (From y) e none tj tk hl hm same =
      absurd (false≢true (same ∙ (ap (λ o. (cell_at b d (v 2 +ℤ o)).live) hm ∙ all_live none k tk)))
  base_flags j k (From x) Live e none tj tk hl hm same = absurd hm
  base_flags j k (From x) Dead e none tj tk hl hm same =
      absurd (false≢true (sym same ∙ (ap (λ o. (cell_at b d (v 2 +ℤ o)).live) hl ∙ all_live none j tj)))
  base_flags j k (From x) (From y) e none tj tk hl hm same = (Decides-int_eq x y).1 (hl ∙ (e ∙ sym hm))

  -- of two half cells with the flags of different base cells, that of the left one is dead and that of the
  -- right one lives
  half_flags :
      (j k : ℤ) → int_eq j k ≡ false → dead ≡ (if int_eq j k then None else Some j)
      → HasCell d (v 2 +ℤ j) → HasCell d (v 2 +ℤ k)
      → (cell_at b d (v 2 +ℤ j)).live ≡ (cell_at b d (v 2 +ℤ k)).live → ⊥
  half_flags j k other e tj tk same =
      let at_left : dead ≡ Some j = e ∙ ap (λ t. if t then None else Some j) other in
      let right_lives = base_lives k
      (λ m f equal. false≢true (sym other ∙ (Decides-int_eq j k).1 (one_offset dead j m at_left f ∙ sym equal))) tk in
      false≢true (sym (base_dies j at_left tj) ∙ (same ∙ right_lives))

  -- flags that the document tells apart are found the same, where they mean the same
  named_flags :
      (l m : Flag) → dead ≡ dead_of_half l m → IsToldFlag v d l → IsToldFlag v d m
      → flag_meant v (cell_at b d) l ≡ flag_meant v (cell_at b d) m → is_same_flag l m ≡ true
  named_flags Live Live e hl hm same = refl
  named_flags Live Dead e hl hm same = absurd (false≢true (sym same))
  named_flags Live (From k) e hl hm same = absurd (false≢true (sym (same ∙ base_dies k e hm)))
  named_flags Dead Live e hl hm same = absurd (false≢true same)
  named_flags Dead Dead e hl hm same = refl
  named_flags Dead (From k) e hl hm same = absurd (false≢true (same ∙ all_live e k hm))
  named_flags (From j) Live e hl hm same = absurd (false≢true (sym (base_dies j e hl) ∙ same))
  named_flags (From j) Dead e hl hm same = absurd (false≢true (sym same ∙ all_live e j hl))
  named_flags (From j) (From k) e hl hm same =
      elim (cases_Bool (int_eq j k)) [
        | inl equal ↦ equal
        | inr other ↦ absurd (half_flags j k other e hl hm same)
      ]

  found :
      (s t : Source) (l m : Flag) (why : Why) → is_same_flag l m ≡ true
      → end_of (ask_same_source s t (Fails why)) v ≡ None
      → end_of (if is_same_flag l m then ask_same_source s t (Fails why) else Fails why) v ≡ None
  found s t l m why flags sources = rw flags sources

  -- cells that the document tells apart are found the same, where they mean the same
  told_apart :
      (s t : Source) (l m : Flag) (why : Why) → dead ≡ dead_read s t l m → IsReadFlag s l
      → IsReadFlag t m → IsToldSource v d s
      → IsToldSource v d t → IsToldFlag v d l → IsToldFlag v d m
      → ((j k : ℤ) → s ≡ Base j → t ≡ Base k → (cell_at b d (v 2 +ℤ j)).ch ≡ (cell_at b d (v 2 +ℤ k)).ch → j ≡ k)
      → source_meant v (cell_at b d) s ≡ source_meant v (cell_at b d) t
      → flag_meant v (cell_at b d) l ≡ flag_meant v (cell_at b d) m
      → end_of (if is_same_flag l m then ask_same_source s t (Fails why) else Fails why) v ≡ None
  unfolding ask_same_source
  told_apart (Base j) (Base k) l m why e hl hm tj tk fl fm alone chars flags =
      let same : j ≡ k = alone j k refl refl chars in
      let equal : int_eq j k ≡ true = (Decides-int_eq j k).1 same in
      found (Base j) (Base k) l m why (base_flags j k l m same e tj tk hl hm flags) (rw equal refl)
  told_apart (Base j) (Named c) l m why e hl hm tj tc fl fm alone chars flags =
      absurd (tc.1 (v 2 +ℤ j) tj.0 tj.1 (sym chars ∙ ap (λ x. x.ch) (cell_at-in d (v 2 +ℤ j) b tj.0 tj.1)))
  told_apart (Named c) (Base k) l m why e hl hm tc tk fl fm alone chars flags =
      absurd (tc.1 (v 2 +ℤ k) tk.0 tk.1 (chars ∙ ap (λ x. x.ch) (cell_at-in d (v 2 +ℤ k) b tk.0 tk.1)))
  told_apart (Named c) (Named o) l m why e hl hm tc to fl fm alone chars flags =
      let equal : v c +ℤ pos 0 ≡ v o +ℤ pos 0 = ap (λ z. z +ℤ pos 0) (tc.0 ∙ (ap pos chars ∙ sym to.0)) in
      found (Named c) (Named o) l m why (named_flags l m e fl fm flags)
      (end-eq (place c (pos 0)) (place o (pos 0)) Holds (Fails why) v
      ∙ ap (λ t. by_test t Holds (Fails why) v) ((Decides-int_eq (v c +ℤ pos 0) (v o +ℤ pos 0)).1 equal))

  -- where the left cell's base place has a character of its own, cells of one meaning are found the same
  pub told_same :
      (x y : Finished) → dead ≡ dead_read x.source y.source x.flag y.flag → IsTold v d x → IsTold v d y
      → ((j k : ℤ) → x.source ≡ Base j → y.source ≡ Base k
      → (cell_at b d (v 2 +ℤ j)).ch ≡ (cell_at b d (v 2 +ℤ k)).ch → j ≡ k)
      → meant v (cell_at b d) x ≡ meant v (cell_at b d) y → end_of (ask_same x y) v ≡ None
  unfolding ask_same
  told_same x y e tx ty alone same =
      told_apart x.source y.source x.flag y.flag (cells_cause x y) e tx.flag ty.flag tx.source ty.source tx.base ty.base
      alone (ap (λ z. z.ch) same) (ap (λ z. z.live) same)
