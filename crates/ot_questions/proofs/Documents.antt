-- Documents as functions from all integers, with a free blank cell beyond their ends, and operations as
-- what they do to such functions. Nothing here has a condition on the index.
use Rattle.std.proofs.Common.{◌≡◌, ℕ, zero, suc, ◌+◌, ◌-◌, ◌<◌, ◌≤◌, ℤ, pos, negsuc, ◌+ℤ◌, ◌≤ℤ◌, ◌<ℤ◌, Bool, true}
use Rattle.std.proofs.Common.{false, if◌then◌else◌, int_le, int_lt, List, [], ◌∷◌, ◌++◌, length, take, drop, map}
use Rattle.std.proofs.Common.{get_or, refl, ap, sym, ◌∙◌, inl, inr, arith, append_assoc, length-append, length-take}
use Rattle.std.proofs.Common.{length-drop}
use Rattle.std.proofs.lemmas.Bool.{cases_lt}
use Rattle.std.proofs.lemmas.Int.{ints}
use Rattle.std.proofs.lemmas.List.{get_or_append_left, get_or-append-add, get_or-take, get_or-drop, drop_more}
use Rattle.ot_model.specs.declared.cell.Cell.{Cell}
use Rattle.ot_model.specs.declared.op.Mode.{Mode}
use Rattle.ot_model.specs.declared.op.Mode.TheVariants.{Plain, Tomb}
use Rattle.ot_model.specs.declared.op.Op.{Op}
use Rattle.ot_model.specs.declared.op.Op.TheVariants.{Ins, Del, Upd, Nop}
use Rattle.ot_model.specs.Cells.{live_cell, dead_cell, cell_with, with_cells}
use Rattle.ot_model.specs.Effect.{IsEnabled, document_after}
use Rattle.ot_questions.proofs.Tests.{Decides-int_le, Decides-int_lt}

-- the cell at an index, the blank where there is none
abbrev pub cell_at : Cell → List Cell → ℤ → Cell
cell_at blank d (pos i) = get_or d i blank
cell_at blank d (negsuc i) = blank

-- a document with another cell at one place, which is made of the one that is there
abbrev pub changed : (Cell → Cell) → ℤ → (ℤ → Cell) → ℤ → Cell
changed change at g j = if int_lt j at then g j else (if int_le j at then change (g j) else g j)

-- what an operation does to a document that has a cell at each integer
abbrev pub shown : Mode → Op → (ℤ → Cell) → ℤ → Cell
shown mode (Ins at ch site) g j =
    if int_lt j at then g j else (if int_le j at then live_cell ch else g (j +ℤ negsuc 0))
shown Plain (Del at site) g j = if int_lt j at then g j else g (j +ℤ pos 1)
shown Tomb (Del at site) g j = changed dead_cell at g j
shown mode (Upd at ch site) g j = changed (cell_with ch) at g j
shown mode Nop g j = g j

-- a choice by a test that is known
if_yes : {X : Type 0} (b : Bool) (x y : X) → b ≡ true → (if b then x else y) ≡ x
if_yes true x y h = refl
if_yes false x y h = absurd (cc)

if_no : {X : Type 0} (b : Bool) (x y : X) → b ≡ false → (if b then x else y) ≡ y
if_no true x y h = absurd (cc)
if_no false x y h = refl

lt_yes : (j at : ℤ) → j <ℤ at → int_lt j at ≡ true
lt_yes j at h = (Decides-int_lt j at).1 h

lt_no : (j at : ℤ) → at ≤ℤ j → int_lt j at ≡ false
lt_no j at h = grind (arith, ints)

le_yes : (j at : ℤ) → j ≤ℤ at → int_le j at ≡ true
le_yes j at h = (Decides-int_le j at).1 h

le_no : (j at : ℤ) → at <ℤ j → int_le j at ≡ false
le_no j at h = grind (arith, ints)

-- the one edit of a list: in front of it, at its first cell, and behind it
edit_before :
    (n count : ℕ) (cells d : List Cell) (i : ℕ) (b : Cell) → n ≤ length d → i < n
    → get_or (with_cells n count cells d) i b ≡ get_or d i b
edit_before n count cells d i b fits h =
    let len : length (take n d) ≡ n = omega (arith, length-take n d) in
    let front : i < length (take n d) = omega arith in
    ap (λ xs. get_or xs i b) (append_assoc (take n d) cells (drop (n + count) d))
    ∙ (get_or_append_left (take n d) (cells ++ drop (n + count) d) b i front ∙ get_or-take n d i b h)

edit_behind :
    (n count : ℕ) (cells d : List Cell) (i t : ℕ) (b : Cell) → n ≤ length d → i ≡ n + length cells + t
    → get_or (with_cells n count cells d) i b ≡ get_or d (n + count + t) b
edit_behind n count cells d i t b fits e =
    let len : length (take n d ++ cells) ≡ n + length cells =
    omega (arith, length-append (take n d) cells, length-take n d) in
    let place : i ≡ length (take n d ++ cells) + t = omega arith in
    ap (λ j. get_or (with_cells n count cells d) j b) place
    ∙ (get_or-append-add (take n d ++ cells) (drop (n + count) d) t b ∙ get_or-drop (n + count) d t b)

edit_within : (n count : ℕ) (x : Cell) (d : List Cell) (b : Cell) → n ≤ length d
    → get_or (with_cells n count (x ∷ []) d) n b ≡ x
edit_within n count x d b fits =
    let place : n ≡ length (take n d) + 0 = omega (arith, length-take n d) in
    ap (λ xs. get_or xs n b) (append_assoc (take n d) (x ∷ []) (drop (n + count) d))
    ∙ (ap (λ j. get_or (take n d ++ (x ∷ drop (n + count) d)) j b) place
    ∙ get_or-append-add (take n d) (x ∷ drop (n + count) d) 0 b)

-- an edit takes so many cells out of a list, and puts its own in
length-edit :
    (n count : ℕ) (cells d : List Cell) → n + count ≤ length d
    → length (with_cells n count cells d) + count ≡ length d + length cells
length-edit n count cells d h =
    omega (
      arith,
      length-append (take n d ++ cells) (drop (n + count) d),
      length-append (take n d) cells,
      length-take n d,
      length-drop
          (n + count) d,
    )

one_back : (i : ℕ) → pos (suc i) +ℤ negsuc 0 ≡ pos i
one_back i = omega (arith, ints)

-- an insertion at place n
put_at :
    (b : Cell) (n ch site : ℕ) (d : List Cell) (j : ℤ) → n ≤ length d
    → cell_at b (with_cells n 0 (live_cell ch ∷ []) d) j ≡ shown Plain (Ins (pos n) ch site) (cell_at b d) j
put_at b n ch site d (negsuc i) h =
    sym (if_yes (int_lt (negsuc i) (pos n)) b (if int_le (negsuc i) (pos n) then live_cell ch
    else cell_at b d (negsuc i +ℤ negsuc 0)) (lt_yes (negsuc i) (pos n) (omega (arith, ints))))
put_at b n ch site d (pos i) h =
    elim (cases_lt i n) [
      | inl before ↦
          edit_before n 0 (live_cell ch ∷ []) d i b h before
          ∙ sym (if_yes (int_lt (pos i) (pos n)) (get_or d i b)
          (if int_le (pos i) (pos n) then live_cell ch else cell_at b d (pos i +ℤ negsuc 0))
          (lt_yes (pos i) (pos n) (omega (arith, ints))))
      | inr not_before ↦ elim (cases_lt n i) [
        | inl behind ↦ put_behind b n ch site d i h behind
        | inr not_behind ↦
            (let same : i ≡ n = omega arith in
            ap (λ x. get_or (with_cells n 0 (live_cell ch ∷ []) d) x b) same
            ∙ (edit_within n 0 (live_cell ch) d b h
            ∙ (sym (if_yes (int_le (pos i) (pos n)) (live_cell ch) (cell_at b d (pos i +ℤ negsuc 0))
            (le_yes (pos i) (pos n) (omega (arith, ints))))
            ∙ sym (if_no (int_lt (pos i) (pos n)) (get_or d i b)
            (if int_le (pos i) (pos n) then live_cell ch else cell_at b d (pos i +ℤ negsuc 0))
            (lt_no (pos i) (pos n) (omega (arith, ints)))))))
      ]
    ]
  where
    put_behind :
        (b : Cell) (n ch site : ℕ) (d : List Cell) (i : ℕ) → n ≤ length d → n < i
        → get_or (with_cells n 0 (live_cell ch ∷ []) d) i b ≡ shown Plain (Ins (pos n) ch site) (cell_at b d) (pos i)
    put_behind b n ch site d zero h behind = absurd (omega arith)
    put_behind b n ch site d (suc i) h behind =
        let e : suc i ≡ n + 1 + (i - n) = omega arith in
        let back : n + 0 + (i - n) ≡ i = omega arith in
        edit_behind n 0 (live_cell ch ∷ []) d (suc i) (i - n) b h e
        ∙ (ap (λ x. get_or d x b) back
        ∙ (sym (if_no (int_le (pos (suc i)) (pos n)) (live_cell ch) (cell_at b d (pos (suc i) +ℤ negsuc 0))
        (le_no (pos (suc i)) (pos n) (omega (arith, ints)))
        ∙ ap (cell_at b d) (one_back i))
        ∙ sym (if_no (int_lt (pos (suc i)) (pos n)) (get_or d (suc i) b)
        (if int_le (pos (suc i)) (pos n) then live_cell ch else cell_at b d (pos (suc i) +ℤ negsuc 0))
        (lt_no (pos (suc i)) (pos n) (omega (arith, ints))))))

-- a deletion that takes the cell at place n out
cut_at :
    (b : Cell) (n site : ℕ) (d : List Cell) (j : ℤ) → n < length d
    → cell_at b (with_cells n 1 [] d) j ≡ shown Plain (Del (pos n) site) (cell_at b d) j
cut_at b n site d (negsuc i) h =
    sym (if_yes (int_lt (negsuc i) (pos n)) b (cell_at b d (negsuc i +ℤ pos 1))
    (lt_yes (negsuc i) (pos n) (omega (arith, ints))))
cut_at b n site d (pos i) h =
    elim (cases_lt i n) [
      | inl before ↦
          edit_before n 1 [] d i b (omega arith) before
          ∙ sym (if_yes (int_lt (pos i) (pos n)) (get_or d i b) (get_or d (i + 1) b)
          (lt_yes (pos i) (pos n) (omega (arith, ints))))
      | inr behind ↦
          (let e : i ≡ n + 0 + (i - n) = omega arith in
          let on : n + 1 + (i - n) ≡ i + 1 = omega arith in
          edit_behind n 1 [] d i (i - n) b (omega arith) e
          ∙ (ap (λ x. get_or d x b) on
          ∙ sym (if_no (int_lt (pos i) (pos n)) (get_or d i b) (get_or d (i + 1) b)
          (lt_no (pos i) (pos n) (omega (arith, ints))))))
    ]

-- another cell in place of the one at place n
change_at :
    (change : Cell → Cell) (b : Cell) (n : ℕ) (d : List Cell) (j : ℤ) → n < length d
    → cell_at b (with_cells n 1 (change (get_or d n b) ∷ []) d) j ≡ changed change (pos n) (cell_at b d) j
change_at change b n d (negsuc i) h =
    sym (if_yes (int_lt (negsuc i) (pos n)) b (if int_le (negsuc i) (pos n) then change b else b)
    (lt_yes (negsuc i) (pos n) (omega (arith, ints))))
change_at change b n d (pos i) h =
    elim (cases_lt i n) [
      | inl before ↦
          edit_before n 1 (change (get_or d n b) ∷ []) d i b (omega arith) before
          ∙ sym (if_yes (int_lt (pos i) (pos n)) (get_or d i b)
          (if int_le (pos i) (pos n) then change (get_or d i b) else get_or d i b)
          (lt_yes (pos i) (pos n) (omega (arith, ints))))
      | inr not_before ↦ elim (cases_lt n i) [
        | inl behind ↦
            (let e : i ≡ n + 1 + (i - (n + 1)) = omega arith in
            edit_behind n 1 (change (get_or d n b) ∷ []) d i (i - (n + 1)) b (omega arith) e
            ∙ (ap (λ x. get_or d x b) (sym e)
            ∙ (sym (if_no (int_le (pos i) (pos n)) (change (get_or d i b)) (get_or d i b)
            (le_no (pos i) (pos n) (omega (arith, ints))))
            ∙ sym (if_no (int_lt (pos i) (pos n)) (get_or d i b)
            (if int_le (pos i) (pos n) then change (get_or d i b) else get_or d i b)
            (lt_no (pos i) (pos n) (omega (arith, ints)))))))
        | inr not_behind ↦
            (let same : i ≡ n = omega arith in
            ap (λ x. get_or (with_cells n 1 (change (get_or d n b) ∷ []) d) x b) same
            ∙ (edit_within n 1 (change (get_or d n b)) d b (omega arith)
            ∙ (ap (λ x. change (get_or d x b)) (sym same)
            ∙ (sym (if_yes (int_le (pos i) (pos n)) (change (get_or d i b)) (get_or d i b)
            (le_yes (pos i) (pos n) (omega (arith, ints))))
            ∙ sym (if_no (int_lt (pos i) (pos n)) (get_or d i b)
            (if int_le (pos i) (pos n) then change (get_or d i b) else get_or d i b)
            (lt_no (pos i) (pos n) (omega (arith, ints))))))))
      ]
    ]

-- the cell that an operation meets
one_cell : (d : List Cell) (n : ℕ) (b : Cell) → n < length d → take 1 (drop n d) ≡ get_or d n b ∷ []
one_cell d n b h = ap (take 1) (drop_more d n b h)

-- a tombstone or another character at place n
edit_at :
    (change : Cell → Cell) (b : Cell) (n : ℕ) (d : List Cell) (j : ℤ) → n < length d
    → cell_at b (with_cells n 1 (map change (take 1 (drop n d))) d) j ≡ changed change (pos n) (cell_at b d) j
edit_at change b n d j here =
    ap (λ cells. cell_at b (with_cells n 1 (map change cells) d) j) (one_cell d n b here)
    ∙ change_at change b n d j here

-- an enabled operation, seen at every index
pub cell_at-document_after :
    (b : Cell) (mode : Mode) (o : Op) (d : List Cell) (j : ℤ) → IsEnabled o (length d)
    → cell_at b (document_after mode o d) j ≡ shown mode o (cell_at b d) j
cell_at-document_after b Plain (Ins (pos n) ch site) d j h = put_at b n ch site d j (omega (arith, ints, h.1))
cell_at-document_after b Tomb (Ins (pos n) ch site) d j h = put_at b n ch site d j (omega (arith, ints, h.1))
cell_at-document_after b mode (Ins (negsuc n) ch site) d j h = absurd (omega (arith, ints, h.0))
cell_at-document_after b Plain (Del (pos n) site) d j h = cut_at b n site d j (omega (arith, ints, h.1))
cell_at-document_after b Tomb (Del (pos n) site) d j h = edit_at dead_cell b n d j (omega (arith, ints, h.1))
cell_at-document_after b mode (Del (negsuc n) site) d j h = absurd (omega (arith, ints, h.0))
cell_at-document_after b Plain (Upd (pos n) ch site) d j h = edit_at (cell_with ch) b n d j (omega (arith, ints, h.1))
cell_at-document_after b Tomb (Upd (pos n) ch site) d j h = edit_at (cell_with ch) b n d j (omega (arith, ints, h.1))
cell_at-document_after b mode (Upd (negsuc n) ch site) d j h = absurd (omega (arith, ints, h.0))
cell_at-document_after b mode Nop d j h = refl

-- an operation shows equal documents equal
pub shown-same : (mode : Mode) (o : Op) (g h : ℤ → Cell) → ((j : ℤ) → g j ≡ h j) → (j : ℤ)
    → shown mode o g j ≡ shown mode o h j
shown-same Plain (Ins at ch site) g h e j = rw (e j, e (j +ℤ negsuc 0)) refl
shown-same Tomb (Ins at ch site) g h e j = rw (e j, e (j +ℤ negsuc 0)) refl
shown-same Plain (Del at site) g h e j = rw (e j, e (j +ℤ pos 1)) refl
shown-same Tomb (Del at site) g h e j = rw (e j) refl
shown-same Plain (Upd at ch site) g h e j = rw (e j) refl
shown-same Tomb (Upd at ch site) g h e j = rw (e j) refl
shown-same mode Nop g h e j = e j

-- how many cells an operation adds
abbrev pub op_growth : Mode → Op → ℤ
op_growth mode (Ins at ch site) = pos 1
op_growth Plain (Del at site) = negsuc 0
op_growth Tomb (Del at site) = pos 0
op_growth mode (Upd at ch site) = pos 0
op_growth mode Nop = pos 0

put_length : (n ch : ℕ) (d : List Cell) → n ≤ length d
    → pos (length (with_cells n 0 (live_cell ch ∷ []) d)) ≡ pos (length d) +ℤ pos 1
put_length n ch d h =
    let e : length (with_cells n 0 (live_cell ch ∷ []) d) + 0 ≡ length d + 1 =
    length-edit n 0 (live_cell ch ∷ []) d (omega arith) in
    omega (arith, ints)

edit_length :
    (change : Cell → Cell) (n : ℕ) (d : List Cell) → n < length d
    → pos (length (with_cells n 1 (map change (take 1 (drop n d))) d)) ≡ pos (length d) +ℤ pos 0
edit_length change n d here =
    let blank = live_cell 0 in
    let e : length (with_cells n 1 (change (get_or d n blank) ∷ []) d) + 1 ≡ length d + 1
    = length-edit n 1 (change (get_or d n blank) ∷ []) d (omega arith) in
    let one : length (with_cells n 1 (map change (take 1 (drop n d))) d) ≡ length (with_cells n 1 (change (get_or d n
    blank) ∷ []) d) = ap (λ cells. length (with_cells n 1 (map change cells) d)) (one_cell d n blank here) in
    omega (arith, ints)

-- a document grows by what its operation adds
pub length-document_after :
    (mode : Mode) (o : Op) (d : List Cell) → IsEnabled o (length d)
    → pos (length (document_after mode o d)) ≡ pos (length d) +ℤ op_growth mode o
length-document_after Plain (Ins (pos n) ch site) d h = put_length n ch d (omega (arith, ints, h.1))
length-document_after Tomb (Ins (pos n) ch site) d h = put_length n ch d (omega (arith, ints, h.1))
length-document_after mode (Ins (negsuc n) ch site) d h = absurd (omega (arith, ints, h.0))
length-document_after Plain (Del (pos n) site) d h =
    let here : n + 1 ≤ length d = omega (arith, ints, h.1) in
    let e : length (with_cells n 1 [] d) + 1 ≡ length d + 0 = length-edit n 1 [] d here in
    omega (arith, ints)
length-document_after Tomb (Del (pos n) site) d h = edit_length dead_cell n d (omega (arith, ints, h.1))
length-document_after mode (Del (negsuc n) site) d h = absurd (omega (arith, ints, h.0))
length-document_after Plain (Upd (pos n) ch site) d h = edit_length (cell_with ch) n d (omega (arith, ints, h.1))
length-document_after Tomb (Upd (pos n) ch site) d h = edit_length (cell_with ch) n d (omega (arith, ints, h.1))
length-document_after mode (Upd (negsuc n) ch site) d h = absurd (omega (arith, ints, h.0))
length-document_after mode Nop d h = omega (arith, ints)
