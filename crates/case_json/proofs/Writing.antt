-- The writing of a document's text, cell by cell.
use Rattle.std.proofs.Common.{◌≡◌, ℕ, ◌+◌, ◌<◌, List, [], ◌∷◌, ◌++◌, length, take, drop, sym, ap, ◌∙◌, append_assoc}
use Rattle.std.proofs.Common.{append-nil, arith, get_or, length-append, Result, Ok, Err, OnErr}
use Rattle.std.specs.Prelude.{encode_utf8_all}
use Rattle.std.proofs.lemmas.List.{take_more, drop_more, take-append-drop, take-append-le}
use Rattle.std.proofs.lemmas.Grind.{flat_map-append}
use Rattle.std.proofs.lemmas.Str.{encodes-append}
use Rattle.std.proofs.Math.Seq.{take-append-add}
use Rattle.ot_model.specs.declared.cell.Cell.{Cell}
use Rattle.case_json.specs.DocText.{cell_text, doc_text}
use Rattle.ot_outside.specs.Whole.{AppendsFront}

-- the bytes of a document's text
abbrev pub doc_bytes : List Cell → List ℕ
doc_bytes doc = encode_utf8_all (doc_text doc)

abbrev pub cell_bytes : Cell → List ℕ
cell_bytes cell = encode_utf8_all (cell_text cell)

doc_bytes-append : (front behind : List Cell) → doc_bytes (front ++ behind) ≡ doc_bytes front ++ doc_bytes behind
doc_bytes-append front behind =
    ap encode_utf8_all (flat_map-append cell_text front behind) ∙ encodes-append (doc_text front) (doc_text behind)

doc_bytes-cons : (cell : Cell) (behind : List Cell) → doc_bytes (cell ∷ behind) ≡ cell_bytes cell ++ doc_bytes behind
doc_bytes-cons cell behind = encodes-append (cell_text cell) (doc_text behind)

-- one more cell was written
pub doc_bytes-take_more : (doc : List Cell) (i : ℕ) (other : Cell) → i < length doc
    → doc_bytes (take (i + 1) doc) ≡ doc_bytes (take i doc) ++ cell_bytes (get_or doc i other)
doc_bytes-take_more doc i other inside =
    ap doc_bytes (take_more doc i other inside) ∙ doc_bytes-append (take i doc) (get_or doc i other ∷ [])
    ∙ ap (λ (written : List ℕ). doc_bytes (take i doc) ++ written)
    (doc_bytes-cons (get_or doc i other) [] ∙ append-nil (cell_bytes (get_or doc i other)))

-- the text around a cell
pub doc_bytes-around : (doc : List Cell) (i : ℕ) (other : Cell) → i < length doc
    → doc_bytes doc ≡ doc_bytes (take i doc) ++ (cell_bytes (get_or doc i other) ++ doc_bytes (drop (i + 1) doc))
doc_bytes-around doc i other inside =
    ap doc_bytes (sym (take-append-drop i doc)) ∙ doc_bytes-append (take i doc) (drop i doc)
    ∙ ap (λ (written : List ℕ). doc_bytes (take i doc) ++ written)
    (ap doc_bytes (drop_more doc i other inside) ∙ doc_bytes-cons (get_or doc i other) (drop (i + 1) doc))

-- a front behind what was written before
pub front_behind :
    (old front new text : List ℕ) → AppendsFront (old ++ front) text new → AppendsFront old (front ++ text) new
front_behind old front new text behind =
    let taken = sym (take-append-add front text behind.0) in (
      length front + behind.0,
      omega (arith, behind.1, length-append front text),
      behind.2 ∙ append_assoc old front (take behind.0 text) ∙ ap (λ (written : List ℕ). old ++ written) taken,
    )

-- a front of a front
pub front_longer :
    (old new text more : List ℕ) → AppendsFront old text new → AppendsFront old (text ++ more) new
front_longer old new text more front = (
  front.0,
  omega (arith, front.1, length-append text more),
  front.2 ∙ ap (λ (written : List ℕ). old ++ written) (sym (take-append-le front.0 text more front.1)),
)

-- what holds is a clause on failure
pub on_err : {T E P : Type 0} → (r : Result T E) → P → OnErr r P
on_err (Ok value) fact = tt
on_err (Err error) fact = fact

-- a front of a text whose first part was written before
pub front_of_rest : (old new whole written text more : List ℕ) → whole ≡ written ++ (text ++ more)
    → AppendsFront (old ++ written) text new → AppendsFront old whole new
front_of_rest old new whole written text more is front =
    rw is (front_behind old written new (text ++ more) (front_longer (old ++ written) new text more front))
