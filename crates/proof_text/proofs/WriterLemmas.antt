-- Texts that are written piece by piece.
use Rattle.std.proofs.Common.{◌≡◌, ℕ, ◌+◌, List, ◌++◌, length, take, Result, Ok, Err, OnErr}
use Rattle.std.proofs.Common.{arith, sym, ap, ◌∙◌, append_assoc, length-append}
use Rattle.std.proofs.lemmas.List.{take-append-le}
use Rattle.std.proofs.Math.Seq.{take-append-add}
use Rattle.ot_outside.specs.Whole.{AppendsFront}

-- a front of the first piece is one of the text
pub first_front :
    (before after text more : List ℕ) → AppendsFront before text after → AppendsFront before (text ++ more) after
first_front before after text more h = (
  h.0,
  omega (arith, h.1, length-append text more),
  h.2 ∙ ap (λ (l : List ℕ). before ++ l) (sym (take-append-le h.0 text more h.1)),
)

-- behind a whole piece, a front of the next one
pub next_front :
    (before between after text more : List ℕ) → between ≡ before ++ text → AppendsFront between more after
    → AppendsFront before (text ++ more) after
next_front before between after text more is h =
    let front : List ℕ = take h.0 more in (
      length text + h.0,
      omega (arith, h.1, length-append text more),
      h.2 ∙ ap (λ (l : List ℕ). l ++ front) is ∙ append_assoc before text front
          ∙ ap (λ (l : List ℕ). before ++ l) (sym (take-append-add text more h.0)),
    )

-- two whole pieces
pub both_pieces :
    (before between after text more : List ℕ) → between ≡ before ++ text → after ≡ between ++ more
    → after ≡ before ++ (text ++ more)
both_pieces before between after text more is after_is =
    after_is ∙ ap (λ (l : List ℕ). l ++ more) is ∙ append_assoc before text more

-- what holds holds on an error
pub on_error : {T E : Type 0} (r : Result T E) {P : Type 0} → P → OnErr r P
on_error (Ok x) h = tt
on_error (Err e) h = h

-- on an error in the first piece
pub error_in_first :
    {T E : Type 0} (r : Result T E) (before after text more : List ℕ) → AppendsFront before text after
    → OnErr r (AppendsFront before (text ++ more) after)
error_in_first r before after text more h = on_error r (first_front before after text more h)

-- on an error in a piece between others
pub error_in_next :
    {T E : Type 0} (r : Result T E) (before between after text piece more : List ℕ) → between ≡ before ++ text
    → AppendsFront between piece after
    → OnErr r (AppendsFront before (text ++ (piece ++ more)) after)
error_in_next r before between after text piece more is h =
    on_error r (next_front before between after text (piece ++ more) is (first_front between after piece more h))

-- on an error behind a whole piece
pub error_behind :
    {T E : Type 0} (r : Result T E) (before between after text more : List ℕ) → between ≡ before ++ text
    → OnErr r (AppendsFront between more after)
    → OnErr r (AppendsFront before (text ++ more) after)
error_behind (Ok x) before between after text more is h = tt
error_behind (Err e) before between after text more is h = next_front before between after text more is h
