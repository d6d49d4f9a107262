-- The reading of a document's text, cell by cell.
use Rattle.std.proofs.Common.{◌≡◌, ℕ, zero, suc, ◌+◌, ◌-◌, ◌<◌, ◌≤◌, Bool, true, false, List, [], ◌∷◌, ◌++◌, length}
use Rattle.std.proofs.Common.{Some, None, Option, Result, Ok, Err, refl, sym, ap, length-append, ◌∙◌, subst, arith}
use Rattle.std.proofs.Common.{nat_eq, eqb-true, if◌then◌else◌}
use Rattle.std.specs.Option.{option_map}
use Rattle.std.specs.Prelude.{encode_utf8_all, IsUtf8}
use Rattle.std.specs.Str.{chars}
use Rattle.std.proofs.lemmas.Str.{encodes-chars}
use Rattle.ot_model.specs.declared.limits.TheConstants.{MAX_CELLS}
use Rattle.ot_model.specs.declared.cell.Cell.{Cell}
use Rattle.case_json.specs.declared.fault.CaseFault.{CaseFault}
use Rattle.case_json.specs.declared.fault.CaseFault.TheVariants.{Field, Limit}
use Rattle.case_json.specs.declared.fault.Name.TheVariants.{Doc, Cells}
use Rattle.case_json.specs.declared.stop.CaseError.{CaseError}
use Rattle.case_json.specs.Faults.{CaseReads}
use Rattle.case_json.specs.DocText.{with_flag, backslash, tilde, newline, carriage_return, letter_n, letter_r}
use Rattle.case_json.specs.DocText.{cells_within, with_first, cell_at, char_at, cell_text, char_text, doc_text}

-- cells in front of the cells of a reading
abbrev pub with_all : List Cell → Result (List Cell) CaseFault → Result (List Cell) CaseFault
with_all [] reading = reading
with_all (cell ∷ cells) reading = with_first cell (with_all cells reading)

pub with_all-push : (doc : List Cell) (cell : Cell) (reading : Result (List Cell) CaseFault)
    → with_all (doc ++ cell ∷ []) reading ≡ with_all doc (with_first cell reading)
with_all-push [] cell reading = refl
with_all-push (first ∷ doc) cell reading = ap (with_first first) (with_all-push doc cell reading)

pub with_all-nil : (doc : List Cell) → with_all doc (Ok []) ≡ Ok doc
with_all-nil [] = refl
with_all-nil (first ∷ doc) = ap (with_first first) (with_all-nil doc)

pub with_all-fault : (doc : List Cell) (fault : CaseFault) → with_all doc (Err fault) ≡ Err fault
with_all-fault [] fault = refl
with_all-fault (first ∷ doc) fault = ap (with_first first) (with_all-fault doc fault)

pub cells_within-nil : (room : ℕ) → cells_within room [] ≡ Ok []
unfolding cells_within
cells_within-nil zero = refl
cells_within-nil (suc room) = refl

-- a text that begins with no cell
pub cells_within-fault : (room : ℕ) (text : List ℕ) → 0 < length text → cell_at text ≡ None
    → cells_within room text ≡ Err (Field Doc)
unfolding cells_within
cells_within-fault room [] some none = absurd (omega arith)
cells_within-fault zero (c ∷ behind) some none = rw none refl
cells_within-fault (suc room) (c ∷ behind) some none = rw none refl

-- a text that begins with a cell where no further one is allowed
pub cells_within-full : (text behind : List ℕ) (cell : Cell) → cell_at text ≡ Some (cell, behind)
    → cells_within 0 text ≡ Err (Limit Cells)
unfolding cells_within
cells_within-full [] behind cell is = cc
cells_within-full (c ∷ cs) behind cell is = rw is refl

-- a text that begins with a cell
pub cells_within-more : (room : ℕ) (text behind : List ℕ) (cell : Cell) → cell_at text ≡ Some (cell, behind)
    → cells_within (suc room) text ≡ with_first cell (cells_within room behind)
unfolding cells_within
cells_within-more room [] behind cell is = cc
cells_within-more room (c ∷ cs) behind cell is = rw is refl

-- the tests of a character, by their outcomes
abbrev written_by : Bool → Bool → Bool → Bool → ℕ → List ℕ
written_by true b n r ch = backslash ∷ backslash ∷ []
written_by false true n r ch = backslash ∷ tilde ∷ []
written_by false false true r ch = backslash ∷ letter_n ∷ []
written_by false false false true ch = backslash ∷ letter_r ∷ []
written_by false false false false ch = ch ∷ []

-- a character, and the text behind it
abbrev in_front : List ℕ → ℕ → Option (ℕ × List ℕ)
in_front behind ch = Some (ch, behind)

in_front-same : (ch escaped : ℕ) (behind : List ℕ) → nat_eq ch escaped ≡ true
    → in_front behind escaped ≡ in_front behind ch
in_front-same ch escaped behind is = ap (in_front behind) (sym (eqb-true ch escaped is))

char_at-written_by : (b t n r : Bool) (ch : ℕ) (behind : List ℕ) → nat_eq ch backslash ≡ b
    → nat_eq ch tilde ≡ t → nat_eq ch newline ≡ n
    → nat_eq ch carriage_return ≡ r → char_at (written_by b t n r ch ++ behind) ≡ Some (ch, behind)
char_at-written_by true t n r ch behind is_b is_t is_n is_r = in_front-same ch backslash behind is_b
char_at-written_by false true n r ch behind is_b is_t is_n is_r = in_front-same ch tilde behind is_t
char_at-written_by false false true r ch behind is_b is_t is_n is_r = in_front-same ch newline behind is_n
char_at-written_by false false false true ch behind is_b is_t is_n is_r = in_front-same ch carriage_return behind is_r
char_at-written_by false false false false ch behind is_b is_t is_n is_r = rw (is_b, is_t) refl

written_by-char_text : (b t n r : Bool) (ch : ℕ) → nat_eq ch backslash ≡ b → nat_eq ch tilde ≡ t → nat_eq ch newline ≡ n
    → nat_eq ch carriage_return ≡ r → char_text ch ≡ written_by b t n r ch
written_by-char_text true t n r ch is_b is_t is_n is_r = rw is_b refl
written_by-char_text false true n r ch is_b is_t is_n is_r = rw (is_b, is_t) refl
written_by-char_text false false true r ch is_b is_t is_n is_r = rw (is_b, is_t, is_n) refl
written_by-char_text false false false true ch is_b is_t is_n is_r = rw (is_b, is_t, is_n, is_r) refl
written_by-char_text false false false false ch is_b is_t is_n is_r = rw (is_b, is_t, is_n, is_r) refl

-- a written character is read, and what is behind it is left
pub char_at-char_text : (ch : ℕ) (behind : List ℕ) → char_at (char_text ch ++ behind) ≡ Some (ch, behind)
char_at-char_text ch behind =
    let b : Bool = nat_eq ch backslash in
    let t : Bool = nat_eq ch tilde in
    let n : Bool = nat_eq ch newline in
    let r : Bool = nat_eq ch carriage_return in
    rw (written_by-char_text b t n r ch refl refl refl refl) (char_at-written_by b t n r ch behind refl refl refl refl)

-- a text that begins with a character begins with no tilde
begins_live : (text behind : List ℕ) (ch : ℕ) → char_at text ≡ Some (ch, behind)
    → cell_at text ≡ Some (let cell : Cell = record { ch = ch; live = true } in cell, behind)
begins_live [] behind ch is = cc
begins_live (c ∷ cs) behind ch is = rw is (other_than_tilde (nat_eq c tilde) refl)
  where
    tilde_is_no_char : nat_eq c tilde ≡ true → char_at (c ∷ cs) ≡ None
    tilde_is_no_char same = rw (eqb-true c tilde same) refl

    other_than_tilde : (t : Bool) → nat_eq c tilde ≡ t
        → (if t then option_map (with_flag false) (char_at cs) else option_map (with_flag true) (Some (ch, behind)))
        ≡ Some (let cell : Cell = record { ch = ch; live = true } in cell, behind)
    other_than_tilde true same = let none = tilde_is_no_char same in cc
    other_than_tilde false same = refl

cell_at-flagged : (live : Bool) (ch : ℕ) (behind : List ℕ)
    → cell_at (cell_text (record { ch = ch; live = live }) ++ behind) ≡ Some (record { ch = ch; live = live }, behind)
cell_at-flagged true ch behind = begins_live (char_text ch ++ behind) behind ch (char_at-char_text ch behind)
cell_at-flagged false ch behind = rw (char_at-char_text ch behind) refl

-- a written cell is read, and what is behind it is left
pub cell_at-cell_text : (cell : Cell) (behind : List ℕ) → cell_at (cell_text cell ++ behind) ≡ Some (cell, behind)
cell_at-cell_text cell behind = cell_at-flagged cell.live cell.ch behind

-- what was written is read
pub cells_within-doc_text : (doc : List Cell) (room : ℕ) → length doc ≤ room → cells_within room (doc_text doc) ≡ Ok doc
cells_within-doc_text [] room fits = cells_within-nil room
cells_within-doc_text (cell ∷ doc) zero fits = absurd (omega arith)
cells_within-doc_text (cell ∷ doc) (suc room) fits =
    cells_within-more room (doc_text (cell ∷ doc)) (doc_text doc) cell (cell_at-cell_text cell (doc_text doc))
    ∙ ap (with_first cell) (cells_within-doc_text doc room (omega arith))

-- so a text that was written has the document as its reading
pub written_reads : (answer : Result (List Cell) CaseError) (text : List ℕ)
    → CaseReads answer (cells_within MAX_CELLS text)
    → (doc : List Cell) → length doc ≤ MAX_CELLS → text ≡ doc_text doc → CaseReads answer (Ok doc)
written_reads answer text reads doc fits written =
    subst (CaseReads answer) (ap (cells_within MAX_CELLS) written ∙ cells_within-doc_text doc MAX_CELLS fits) reads

-- a text that is not empty has a character
pub chars_some : (bytes : List ℕ) → IsUtf8 bytes → 0 < length bytes → 0 < length (chars bytes)
chars_some bytes utf8 some = spelled (chars bytes) (encodes-chars bytes utf8)
  where
    spelled : (cs : List ℕ) → encode_utf8_all cs ≡ bytes → 0 < length cs
    spelled [] is = let none : 0 ≡ length bytes = ap length is in omega arith
    spelled (c ∷ cs) is = omega arith

-- the states of a reading: so many cells were read, and their reading goes on with the rest
module _ (limit : ℕ) (doc : List Cell) (text rest : List ℕ)
    (read : cells_within limit text ≡ with_all doc (cells_within (limit - length doc) rest)) where
  pub reading_goes_on : (next : List Cell) (cell : Cell) (behind : List ℕ) → length doc < limit
      → cell_at rest ≡ Some (cell, behind)
      → next ≡ doc ++ cell ∷ [] → cells_within limit text ≡ with_all next (cells_within (limit - length next) behind)
  reading_goes_on next cell behind room first is =
      let count : length next ≡ length doc + 1 = ap length is ∙ length-append doc (cell ∷ []) in
      let left : limit - length doc ≡ suc (limit - length next) = omega arith in
      read ∙ rw (left, is, with_all-push doc cell (cells_within (limit - length (doc ++ cell ∷ [])) behind))
      (ap (with_all doc) (cells_within-more (limit - length (doc ++ cell ∷ [])) rest behind cell first))

  pub reading_stops : 0 < length rest → cell_at rest ≡ None → cells_within limit text ≡ Err (Field Doc)
  reading_stops some none =
      read ∙ ap (with_all doc) (cells_within-fault (limit - length doc) rest some none) ∙ with_all-fault doc (Field Doc)

  pub reading_is_full : (cell : Cell) (behind : List ℕ) → length doc ≡ limit → cell_at rest ≡ Some (cell, behind)
      → cells_within limit text ≡ Err (Limit Cells)
  reading_is_full cell behind full first =
      let none : limit - length doc ≡ 0 = omega arith in
      read ∙ ap (with_all doc) (rw none (cells_within-full rest behind cell first)) ∙ with_all-fault doc (Limit Cells)

  pub reading_ends : rest ≡ [] → cells_within limit text ≡ Ok doc
  reading_ends nothing =
      read ∙ ap (with_all doc) (ap (cells_within (limit - length doc)) nothing ∙ cells_within-nil (limit - length doc))
      ∙ with_all-nil doc
