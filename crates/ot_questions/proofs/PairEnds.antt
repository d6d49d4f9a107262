-- What the end of a pair's plan says of the instance: the questions go the way of the interpreter, and the
-- end is that of the instance, on any document of the length.
use Rattle.std.proofs.Common.{◌≡◌, ℕ, ℤ, pos, negsuc, ◌+ℤ◌, ◌≤ℤ◌, ◌<ℤ◌, true, false, int_le, int_lt, Option, Some, None}
use Rattle.std.proofs.Common.{option_map, List, [], ◌∷◌, length, refl, ap, sym, ◌∙◌, subst, inl, inr, ◌⊎◌, Decides}
use Rattle.std.proofs.Common.{arith}
use Rattle.std.specs.Prelude.{◌≢◌, unwrap_or, IsSome}
use Rattle.std.specs.List.{AllByRecursion}
use Rattle.std.specs.Ordering.{int_eq}
use Rattle.std.proofs.lemmas.Bool.{cases_lt, false≢true}
use Rattle.std.proofs.lemmas.Bool.Decides.{Decides-int_eq}
use Rattle.std.proofs.lemmas.Int.{ints}
use Rattle.std.proofs.lemmas.Option.{slice_get-get_or, slice_get_past, unwrap_or-slice_get}
use Rattle.ot_model.specs.declared.cell.Cell.{Cell}
use Rattle.ot_model.specs.declared.op.Op.{Op}
use Rattle.ot_model.specs.Cells.{live_cell, dead_cell}
use Rattle.ot_model.specs.Effect.{IsEnabled, document_after}
use Rattle.ot_model.specs.Operations.{char_of}
use Rattle.fn_rules.specs.Functions.{Function}
use Rattle.ask_core.specs.Plans.{end_of}
use Rattle.ot_questions.specs.declared.cell.Source.TheVariants.{Base}
use Rattle.ot_questions.specs.declared.cell.Flag.TheVariants.{From}
use Rattle.ot_questions.specs.declared.cell.Finished.{Finished}
use Rattle.ot_questions.specs.declared.place.SymOp.{SymOp}
use Rattle.ot_questions.specs.declared.why.Why.{Why}
use Rattle.ot_questions.specs.declared.why.Why.TheVariants.{Undefined, OutOfRange, Lengths, Cells, Operations}
use Rattle.ot_questions.specs.Places.{growth, sym_char}
use Rattle.ot_questions.specs.Reading.{base_read, dead_read, cells_cause, ask_same}
use Rattle.ot_questions.specs.Obligation.{ask_converge}
use Rattle.ot_questions.specs.Meaning.{op_at}
use Rattle.ot_questions.specs.Instances.{Forms, after_two, EndWith, cell_in, AgreeAt, PairFails, TellsApart}
use Rattle.ot_questions.proofs.Tests.{Decides-int_le, Decides-int_lt, plus-zero, choose}
use Rattle.ot_questions.proofs.Values.{sym_transformed, goes_on, enabled_to, seen}
use Rattle.ot_questions.proofs.Operations.{IsCounted, IsCountedName, named, transform_of-op_at, char_of-op_at}
use Rattle.ot_questions.proofs.Operations.{enabled_to-true, IsEnabled-test}
use Rattle.ot_questions.proofs.Forms.{form_char}
use Rattle.ot_questions.proofs.Documents.{cell_at}
use Rattle.ot_questions.proofs.Seen.{source_meant, flag_meant, meant, PutsOnly, each_seen}
use Rattle.ot_questions.proofs.Sameness.{found_same}
use Rattle.ot_questions.proofs.Telling.{IsReadFlag, IsFreshName, IsFreshSource, HasCell, IsTold, told_source, told_flag}
use Rattle.ot_questions.proofs.Telling.{read_base, read_dead, dead_flag, cell_at-in, within_by_blanks, same_ends}
use Rattle.ot_questions.proofs.Telling.{told_same}
use Rattle.ot_questions.proofs.Pairs.{form_at, length_after, length_after_two, cell_seen, blank_free, documents_end}
use Rattle.ot_questions.proofs.Pairs.{lengths_end, ways_end, end-converge}

-- what the end says of two operations that are enabled and allowed
abbrev pub PairSays : Function → List Cell → Op → Op → ℤ → Option Why → Type 0
PairSays f d a b i None = EndWith f d a b (AgreeAt i)
PairSays f d a b i (Some Undefined) = PairFails f d a b i Undefined
PairSays f d a b i (Some OutOfRange) = PairFails f d a b i OutOfRange
PairSays f d a b i (Some Lengths) = PairFails f d a b i Lengths
PairSays f d a b i (Some (Cells left dead)) =
    EndWith f d a b (λ here there. length here ≡ length there)
    × ((off : ℤ) → (left ≡ Some off) ⊎ (dead ≡ Some off) → IsSome (cell_in d (i +ℤ off)))
    × (TellsApart d a b i left dead → PairFails f d a b i (Cells left dead))
PairSays f d a b i (Some Operations) = ⊥

-- the cells there agree where they do for every blank, as far as the documents go
cells_agree :
    (left right : List Cell) (i : ℤ) → length left ≡ length right
    → ((x : Cell) → pos 0 ≤ℤ i → i <ℤ pos (length left) → cell_at x left i ≡ cell_at x right i)
    → cell_in left i ≡ cell_in right i
cells_agree left right (negsuc i) e h = refl
cells_agree left right (pos i) e h =
    elim (cases_lt i (length left)) [
      | inl lt ↦
          slice_get-get_or left i blank lt
          ∙ (ap Some (h blank (omega (arith, ints)) (omega (arith, ints)))
          ∙ sym (slice_get-get_or right i blank (omega arith)))
      | inr past ↦ slice_get_past left i (omega arith) ∙ sym (slice_get_past right i (omega arith))
    ]
  where
    blank : Cell
    blank = record { ch = 0; live = true }

cell_at_unwrapped : (left right : List Cell) (i : ℤ) → cell_in left i ≡ cell_in right i → (x : Cell)
    → cell_at x left i ≡ cell_at x right i
cell_at_unwrapped left right (negsuc i) e x = refl
cell_at_unwrapped left right (pos i) e x =
    sym (unwrap_or-slice_get left i x) ∙ (ap (λ o. unwrap_or o x) e ∙ unwrap_or-slice_get right i x)

-- the tests of the index
index_low : (zero i : ℤ) → zero ≡ pos 0 → int_le (zero +ℤ pos 0) (i +ℤ pos 0) ≡ true → pos 0 ≤ℤ i
index_low zero i e t = let h = (Decides-int_le (zero +ℤ pos 0) (i +ℤ pos 0)).0 t in omega (arith, ints)

index_not_low : (zero i : ℤ) → zero ≡ pos 0 → int_le (zero +ℤ pos 0) (i +ℤ pos 0) ≡ false → pos 0 ≤ℤ i → ⊥
index_not_low zero i e t h = false≢true (sym t ∙ (Decides-int_le (zero +ℤ pos 0) (i +ℤ pos 0)).1 (omega (arith, ints)))

index_high : (i n m : ℤ) → n ≡ m → int_lt (i +ℤ pos 0) n ≡ true → i <ℤ m
index_high i n m e t = let h = (Decides-int_lt (i +ℤ pos 0) n).0 t in omega (arith, ints)

index_not_high : (i n m : ℤ) → n ≡ m → int_lt (i +ℤ pos 0) n ≡ false → i <ℤ m → ⊥
index_not_high i n m e t h = false≢true (sym t ∙ (Decides-int_lt (i +ℤ pos 0) n).1 (omega (arith, ints)))

same_ends_of : (x y : ℤ) (m n : ℕ) → x ≡ y → x ≡ pos m → y ≡ pos n → m ≡ n
same_ends_of x y m n e h g = omega (arith, ints)

cancel : (x y z : ℤ) (m n : ℕ) → x +ℤ y ≡ pos m → x +ℤ z ≡ pos n → m ≡ n → y ≡ z
cancel x y z m n e h g = omega (arith, ints)

same_offsets : (i j k : ℤ) → i +ℤ k ≡ i +ℤ j → j ≡ k
same_offsets i j k e = omega (arith, ints)

some_there : (o : Option Cell) → (cell : Cell) × (o ≡ Some cell) → IsSome o
some_there o there = subst (λ x. IsSome x) (sym there.1) refl

zero_is_not_one : (x y : ℕ) → x ≡ 0 → y ≡ 1 → x ≢ y
zero_is_not_one x y low high e = omega arith

no_cause : (o : Option Why) (why : Why) → o ≡ None → o ≡ Some why → ⊥
no_cause o why e h = cc

-- the character that an operation puts, in a document that has it nowhere
fresh_char :
    (v : ℕ → ℤ) (d : List Cell) (o : SymOp) (c : ℕ) → IsCounted v o → sym_char o ≡ Some c
    → ((j : ℤ) (cell : Cell) → cell_in d j ≡ Some cell → char_of (op_at v o) ≢ Some cell.ch) → IsFreshName v d c
fresh_char v d o c counted e apart = (
  subst (λ n. IsCountedName v n) e counted.ch,
  λ j cell here same. apart j cell here (char_of-op_at v o ∙ (ap (named v) e ∙ ap Some same)),
)

-- what is read of a document at the index, which lies within it: what comes from the base document is there
module _ (v : ℕ → ℤ) (d side : List Cell) (x : Finished) (shows : (b : Cell)
    → cell_at b side (v 2) ≡ meant v (cell_at b d) x)
    (low : pos 0 ≤ℤ v 2) (high : v 2 <ℤ pos (length side)) where
  one_part : {X : Type 0} (part : Cell → X) (b c : Cell)
      → part (meant v (cell_at b d) x) ≡ part (meant v (cell_at c d) x)
  one_part part b c = ap part (sym (shows b) ∙ (blank_free side b c (v 2) low high ∙ shows c))

  source_within : (k : ℤ) → x.source ≡ Base k → HasCell d (v 2 +ℤ k)
  source_within k s =
      within_by_blanks (λ w. w.ch) (live_cell 0) (live_cell 1) (zero_is_not_one _ _ refl refl) d (v 2 +ℤ k)
      (λ b c. subst (λ t. source_meant v (cell_at b d) t ≡ source_meant v (cell_at c d) t) s (one_part (λ w. w.ch) b c))

  flag_within : (k : ℤ) → x.flag ≡ From k → HasCell d (v 2 +ℤ k)
  flag_within k s =
      within_by_blanks (λ w. w.live) (dead_cell (live_cell 0)) (live_cell 0) false≢true d (v 2 +ℤ k)
      (λ b c. subst (λ t. flag_meant v (cell_at b d) t ≡ flag_meant v (cell_at c d) t) s (one_part (λ w. w.live) b c))

module _ (v : ℕ → ℤ) (f : Function) (x y : SymOp) (d : List Cell) (z : v 0 ≡ pos 0)
    (e : v 1 ≡ pos (length d)) (cx : IsCounted v x)
    (cy : IsCounted v y) (ex : IsEnabled (op_at v x) (length d)) (ey : IsEnabled (op_at v y) (length d)) where
  abbrev Says : Option Why → Type 0
  Says end = PairSays f d (op_at v x) (op_at v y) (v 2) end

  -- the form of one operation behind another is enabled there as its test says
  Decides-enabled_behind :
      (o p : SymOp) → IsEnabled (op_at v o) (length d)
      → Decides (enabled_to (op_at v p) (v 1 +ℤ growth f.head.mode o))
      (IsEnabled (op_at v p) (length (document_after f.head.mode (op_at v o) d)))
  Decides-enabled_behind o p eo =
      let len = length_after v f.head.mode o d (v 1) e eo in (
        λ t. IsEnabled-test (op_at v p) _ (subst (λ n. enabled_to (op_at v p) n ≡ true) len t),
        λ h. subst (λ n. enabled_to (op_at v p) n ≡ true) (sym len) (enabled_to-true (op_at v p) _ h),
      )

  module _ (p q : SymOp) (ep : sym_transformed v f y x ≡ Some p) (eq : sym_transformed v f x y ≡ Some q) where
    abbrev forms : Forms f (op_at v x) (op_at v y)
    forms = record {
      b_after_a = op_at v p;
      a_after_b = op_at v q;
      b_transformed = form_at v f y x p z cy cx ep;
      a_transformed = form_at v f x y q z cx cy eq;
    }

    module _ (hp : IsEnabled (op_at v p) (length (document_after f.head.mode (op_at v x) d)))
        (hq : IsEnabled (op_at v q) (length (document_after f.head.mode (op_at v y) d))) where
      abbrev left : List Cell
      left = after_two f d (op_at v x) (op_at v p)

      abbrev right : List Cell
      right = after_two f d (op_at v y) (op_at v q)

      abbrev left_seen : Finished
      left_seen = seen v f.head.mode (p ∷ x ∷ []) (pos 0)

      abbrev right_seen : Finished
      right_seen = seen v f.head.mode (q ∷ y ∷ []) (pos 0)

      left_length : v 1 +ℤ (growth f.head.mode x +ℤ growth f.head.mode p) ≡ pos (length left)
      left_length = length_after_two v f.head.mode x p d e ex hp

      right_length : v 1 +ℤ (growth f.head.mode y +ℤ growth f.head.mode q) ≡ pos (length right)
      right_length = length_after_two v f.head.mode y q d e ey hq

      left_cell : (b : Cell) → cell_at b left (v 2) ≡ meant v (cell_at b d) left_seen
      left_cell b = ap (cell_at b left) (sym (plus-zero (v 2))) ∙ cell_seen v f.head.mode x p d b ex hp

      right_cell : (b : Cell) → cell_at b right (v 2) ≡ meant v (cell_at b d) right_seen
      right_cell b = ap (cell_at b right) (sym (plus-zero (v 2))) ∙ cell_seen v f.head.mode y q d b ey hq

      agreed :
          length left ≡ length right
          → ((b : Cell) → pos 0 ≤ℤ v 2 → v 2 <ℤ pos (length left) → cell_at b left (v 2) ≡ cell_at b right (v 2))
          → Says None
      agreed same h = record { forms = forms; enabled = (hp, hq); ends = (same, cells_agree left right (v 2) same h) }

      module _ (same : length left ≡ length right) (low : pos 0 ≤ℤ v 2) (high : v 2 <ℤ pos (length left)) where
        high_right : v 2 <ℤ pos (length right)
        high_right = subst (λ n. v 2 <ℤ pos n) same high

        left_source : (k : ℤ) → left_seen.source ≡ Base k → HasCell d (v 2 +ℤ k)
        left_source = source_within v d left left_seen left_cell low high

        right_source : (k : ℤ) → right_seen.source ≡ Base k → HasCell d (v 2 +ℤ k)
        right_source = source_within v d right right_seen right_cell low high_right

        left_flag : (k : ℤ) → left_seen.flag ≡ From k → HasCell d (v 2 +ℤ k)
        left_flag = flag_within v d left left_seen left_cell low high

        right_flag : (k : ℤ) → right_seen.flag ≡ From k → HasCell d (v 2 +ℤ k)
        right_flag = flag_within v d right right_seen right_cell low high_right

        abbrev left_offset : Option ℤ
        left_offset = base_read left_seen.source left_seen.flag

        abbrev dead_offset : Option ℤ
        dead_offset = dead_read left_seen.source right_seen.source left_seen.flag right_seen.flag

        -- the cells that the cause names are there
        readable : (off : ℤ) → (left_offset ≡ Some off) ⊎ (dead_offset ≡ Some off) → IsSome (cell_in d (v 2 +ℤ off))
        readable off (inl e) =
            elim (read_base left_seen.source left_seen.flag off e) [
              | inl source ↦ some_there (cell_in d (v 2 +ℤ off)) (left_source off source)
              | inr flag ↦ some_there (cell_in d (v 2 +ℤ off)) (left_flag off flag)
            ]
        readable off (inr e) =
            elim (read_dead left_seen.source right_seen.source left_seen.flag right_seen.flag off e) [
              | inl flag ↦ some_there (cell_in d (v 2 +ℤ off)) (left_flag off flag)
              | inr flag ↦ some_there (cell_in d (v 2 +ℤ off)) (right_flag off flag)
            ]

        module _ (tells : TellsApart d (op_at v x) (op_at v y) (v 2) left_offset dead_offset) where
          abbrev IsReadFrom : Finished → Type 0
          IsReadFrom w = IsReadFlag w.source w.flag × IsFreshSource v d w.source

          read_from :
              (ops : List SymOp) → AllByRecursion (λ o. (c : ℕ) → sym_char o ≡ Some c → IsFreshName v d c) ops
              → AllByRecursion (PutsOnly IsReadFrom) ops
          read_from [] h = tt
          read_from (o ∷ ops) h = (λ c s. ((tt, h.0 c s), λ w read. (tt, h.0 c s)), read_from ops h.1)

          x_fresh : (c : ℕ) → sym_char x ≡ Some c → IsFreshName v d c
          x_fresh c s = fresh_char v d x c cx s (λ j cell here. (tells.fresh j cell here).0)

          y_fresh : (c : ℕ) → sym_char y ≡ Some c → IsFreshName v d c
          y_fresh c s = fresh_char v d y c cy s (λ j cell here. (tells.fresh j cell here).1)

          seen_from :
              (ops : List SymOp) → AllByRecursion (λ o. (c : ℕ) → sym_char o ≡ Some c → IsFreshName v d c) ops
              → IsReadFrom (seen v f.head.mode ops (pos 0))
          seen_from ops h =
              each_seen IsReadFrom (λ k. (refl, tt)) (λ w h. (dead_flag w.source, h.1)) v f.head.mode ops
              (pos 0) (read_from ops h)

          told :
              (w : Finished) → IsReadFrom w → ((k : ℤ) → w.source ≡ Base k → HasCell d (v 2 +ℤ k))
              → ((k : ℤ) → w.flag ≡ From k → HasCell d (v 2 +ℤ k)) → IsTold v d w
          told w h source flag =
              record { flag = h.0; source = told_source v d w.source h.1 source; base = told_flag v d w.flag flag }

          alone :
              (b : Cell) (j k : ℤ) → left_seen.source ≡ Base j → right_seen.source ≡ Base k
              → (cell_at b d (v 2 +ℤ j)).ch ≡ (cell_at b d (v 2 +ℤ k)).ch → j ≡ k
          alone b j k sj sk chars =
              let here = left_source j sj in
              let there = right_source k sk in
              same_offsets (v 2) j k
              (tells.alone (v 2 +ℤ k) j there.0 here.0 (ap (λ s. base_read s left_seen.flag) sj) there.1 here.1
              (ap (λ w. w.ch) (sym (cell_at-in d (v 2 +ℤ k) b there.0 there.1)) ∙
              (sym chars ∙ ap (λ w. w.ch) (cell_at-in d (v 2 +ℤ j) b here.0 here.1))))

          found : (b : Cell) → cell_in left (v 2) ≡ cell_in right (v 2)
              → end_of (ask_same left_seen right_seen) v ≡ None
          found b one =
              told_same v d b dead_offset tells.live tells.dies left_seen right_seen refl
              (told left_seen (seen_from (p ∷ x ∷ []) (λ c s. y_fresh c (form_char v f y x p c ep s), (x_fresh, tt)))
              left_source left_flag)
              (told right_seen (seen_from (q ∷ y ∷ []) (λ c s. x_fresh c (form_char v f x y q c eq s), (y_fresh, tt)))
              right_source right_flag)
              (alone b)
              (sym (left_cell b) ∙ (cell_at_unwrapped left right (v 2) one b ∙ right_cell b))

        -- what the comparison of the two cells that were read ends with, on the document
        cells_say : Says (end_of (ask_same left_seen right_seen) v)
        cells_say =
            elim (same_ends v left_seen right_seen) [
              | inl none ↦
                  subst (λ end. Says end) (sym none)
                  (agreed same (λ b lo hi. left_cell b
                  ∙ (found_same v (cell_at b d) left_seen right_seen none ∙ sym (right_cell b))))
              | inr cells ↦
                  subst (λ end. Says end) (sym cells) (
                    record { forms = forms; enabled = (hp, hq); ends = same },
                    readable,
                    λ tells. record {
                      forms = forms;
                      enabled = (hp, hq);
                      ends = (
                        same,
                        λ one. no_cause (end_of (ask_same left_seen right_seen) v) (cells_cause left_seen right_seen)
                            (found tells (record { ch = 0; live = true }) one) cells,
                      );
                    },
                  )
            ]

      documents_say :
          growth f.head.mode x +ℤ growth f.head.mode p ≡ growth f.head.mode y +ℤ growth f.head.mode q
          → Says (documents_end v f.head.mode (p ∷ x ∷ []) (q ∷ y ∷ []) (growth f.head.mode x +ℤ growth f.head.mode p))
      documents_say sums =
          let same : length left ≡ length right =
          same_ends_of _ _ _ _ (ap (λ s. v 1 +ℤ s) sums) left_length right_length in
          choose (λ end. Says end) (int_le (v 0 +ℤ pos 0) (v 2 +ℤ pos 0)) _ None
          (λ low. choose (λ end. Says end)
          (int_lt (v 2 +ℤ pos 0) (v 1 +ℤ (growth f.head.mode x +ℤ growth f.head.mode p))) _ None
          (λ high. cells_say same (index_low (v 0) (v 2) z low) (index_high (v 2) _ _ left_length high))
          (λ out. agreed same (λ b lo hi. absurd (index_not_high (v 2) _ _ left_length out hi))))
          (λ under. agreed same (λ b lo hi. absurd (index_not_low (v 0) (v 2) z under lo)))

      lengths_say : Says (lengths_end v f.head.mode x p y q)
      lengths_say =
          choose (λ end. Says end) (int_eq (growth f.head.mode x +ℤ growth f.head.mode p)
          (growth f.head.mode y +ℤ growth f.head.mode q)) _ (Some Lengths)
          (λ t. documents_say ((Decides-int_eq _ _).0 t))
          (λ t. record {
            forms = forms;
            enabled = (hp, hq);
            ends =
                λ one. false≢true (sym t ∙ (Decides-int_eq _ _).1 (cancel (v 1) _ _ _ _ left_length right_length one));
          })

    -- both forms are tested, the left one first
    ways_say : Says (ways_end v f.head.mode x p y q)
    ways_say =
        choose (λ end. Says end) (enabled_to (op_at v p) (v 1 +ℤ growth f.head.mode x)) _ (Some OutOfRange)
        (λ l. choose (λ end. Says end) (enabled_to (op_at v q) (v 1 +ℤ growth f.head.mode y)) _ (Some OutOfRange)
        (λ r. lengths_say ((Decides-enabled_behind x p ex).0 l) ((Decides-enabled_behind y q ey).0 r))
        (λ t. (forms, λ enabled. false≢true (sym t ∙ (Decides-enabled_behind y q ey).1 enabled.1))))
        (λ t. (forms, λ enabled. false≢true (sym t ∙ (Decides-enabled_behind x p ex).1 enabled.0)))

  by_forms :
      (o r : Option SymOp) → sym_transformed v f y x ≡ o → sym_transformed v f x y ≡ r
      → Says (goes_on o (λ p. goes_on r (λ q. ways_end v f.head.mode x p y q)))
  by_forms None r eo er = inl (transform_of-op_at v z y x cy cx f ∙ ap (option_map (op_at v)) eo)
  by_forms (Some p) None eo er = inr (transform_of-op_at v z x y cx cy f ∙ ap (option_map (op_at v)) er)
  by_forms (Some p) (Some q) eo er = ways_say p q eo er

  pub converge_says : Says (end_of (ask_converge f x y) v)
  converge_says =
      subst (λ end. Says end) (sym (end-converge v f x y z))
      (by_forms (sym_transformed v f y x) (sym_transformed v f x y) refl refl)
