-- Where what was found ends in the bytes, and what calls answer.
use Rattle.std.proofs.Common.{◌≡◌, ℕ, ◌+◌, ◌-◌, ◌<◌, ◌≤◌, List, ◌++◌, length, take, drop, Result, Ok, Err, IfOk, IfErr}
use Rattle.std.proofs.Common.{sym, ap, ◌∙◌, arith, append_assoc, length-append, length-drop}
use Rattle.std.proofs.lemmas.List.{length-take-le, take-append-drop, take_all}
use Rattle.std.proofs.Math.Seq.{drop-append_seam}
use Rattle.proof_text.specs.Fronts.{Parsed, Found}

-- what stands behind a text that stands at a place
pub found_behind :
    (all : List ℕ) (at : ℕ) (text rest : List ℕ) → at ≤ length all → drop at all ≡ text ++ rest → 0 < length text
    → (length rest ≤ length all) × (at < length all - length rest) × (length all - length rest ≤ length all)
    × (drop (length all - length rest) all ≡ rest)
found_behind all at text rest within is some =
    let front : List ℕ = take at all ++ text in
    let whole : all ≡ front ++ rest =
    sym (take-append-drop at all) ∙ ap (λ (l : List ℕ). take at all ++ l) is
    ∙ sym (append_assoc (take at all) text rest) in
    let len : length all ≡ length front + length rest = omega (arith, ap length whole, length-append front rest) in
    let taken : length (take at all) ≡ at = length-take-le at all within in
    let count : length front ≡ at + length text = omega (arith, length-append (take at all) text) in
    let seam : length all - length rest ≡ length front = omega arith in (
      omega arith,
      omega arith,
      omega arith,
      ap (λ k. drop k all) seam ∙ ap (λ (l : List ℕ). drop (length front) l) whole ∙ drop-append_seam front rest,
    )

-- the bytes from a place on
from_place : (all : List ℕ) (at : ℕ) → take (length all - at) (drop at all) ≡ drop at all
from_place all at = take_all (length all - at) (drop at all) (omega (arith, length-drop at all))

-- what is found in the bytes from a place on is found at the place
pub from_there :
    {A : Type 0} (front : List ℕ → Parsed A) (all rest : List ℕ) (at : ℕ) (a : A)
    → front (take (length all - at) (drop at all)) ≡ Found a rest → front (drop at all) ≡ Found a rest
from_there front all rest at a is = ap front (sym (from_place all at)) ∙ is

pub map_ok : {T E : Type 0} {P Q : T → Type 0} (r : Result T E) → ((x : T) → P x → Q x) → IfOk r P → IfOk r Q
map_ok {T} {E} {P} {Q} (Ok x) f h = f x h
map_ok {T} {E} {P} {Q} (Err e) f h = tt

pub map_err : {T E : Type 0} {P Q : E → Type 0} (r : Result T E) → ((x : E) → P x → Q x) → IfErr r P → IfErr r Q
map_err {T} {E} {P} {Q} (Ok x) f h = tt
map_err {T} {E} {P} {Q} (Err e) f h = f e h
