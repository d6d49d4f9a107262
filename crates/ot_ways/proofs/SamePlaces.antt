-- Documents that differ at no place are one.
use Rattle.std.proofs.Common.{◌≡◌, ◌≤◌, ◌<◌, ℕ, ◌+◌, Bool, true, false, List, [], ◌∷◌, nat_eq, length, drop, refl, ap}
use Rattle.std.proofs.Common.{ap₂, sym, inl, inr, eqb-true, eq-eqb, arith}
use Rattle.std.proofs.lemmas.List.{drop_all, drop_more}
use Rattle.std.specs.Prelude.{Some, None}
use Rattle.std.proofs.lemmas.Bool.{cases_Bool, and_parts, and_from, false≢true}
use Rattle.std.proofs.lemmas.Option.{none-some}
use Rattle.ot_model.specs.declared.cell.Cell.{Cell}
use Rattle.ot_ways.specs.Differences.{is_same_flag, is_same_cell, difference_from, difference_of}

same_flags : (x y : Bool) → is_same_flag x y ≡ true → x ≡ y
same_flags true y e = sym e
same_flags false true e = absurd (false≢true e)
same_flags false false e = refl

flag_itself : (x : Bool) → is_same_flag x x ≡ true
flag_itself true = refl
flag_itself false = refl

same_cells : (c e : Cell) → is_same_cell c e ≡ true → c ≡ e
same_cells c e h =
    let parts = and_parts (nat_eq c.ch e.ch) (is_same_flag c.live e.live) h in
    ap₂ (λ (ch : ℕ) (live : Bool). let cell : Cell = record { ch = ch; live = live } in cell)
    (eqb-true c.ch e.ch parts.0) (same_flags c.live e.live parts.1)

cell_itself : (c : Cell) → is_same_cell c c ≡ true
cell_itself c = and_from (nat_eq c.ch c.ch) (is_same_flag c.live c.live) (eq-eqb c.ch c.ch refl) (flag_itself c.live)

no_difference : (left right : List Cell) (i : ℕ) → difference_from i left right ≡ None → left ≡ right
no_difference [] [] i h = refl
no_difference [] (e ∷ es) i h = absurd (none-some i (sym h))
no_difference (c ∷ cs) [] i h = absurd (none-some i (sym h))
no_difference (c ∷ cs) (e ∷ es) i h =
    elim (cases_Bool (is_same_cell c e)) [
      | inl same ↦
          ap₂ (λ (x : Cell) (xs : List Cell). x ∷ xs) (same_cells c e same) (no_difference cs es (i + 1) (rw same at h))
      | inr other ↦ let here : Some i ≡ None = rw other at h in absurd (none-some i (sym here))
    ]

differs_not : (d : List Cell) (i : ℕ) → difference_from i d d ≡ None
differs_not [] i = refl
differs_not (c ∷ cs) i = rw (cell_itself c) (differs_not cs (i + 1))

pub one_where_none : (left right : List Cell) → difference_of left right ≡ None → left ≡ right
one_where_none left right h = no_difference left right 0 h

pub none_where_one : (left right : List Cell) → left ≡ right → difference_of left right ≡ None
none_where_one left right same = rw same (differs_not right 0)

-- where the right one has ended
pub difference_past : (left right : List Cell) (i : ℕ) → i < length left → length right ≤ i
    → difference_from i (drop i left) (drop i right) ≡ Some i
difference_past [] right i below past = absurd (omega (arith, below))
difference_past (c ∷ cs) right i below past = rw (drop_more (c ∷ cs) i c below, drop_all i right past) refl

-- where the left one has ended
pub difference_ended : (left right : List Cell) (i : ℕ) → i ≡ length left → i < length right
    → Some (length left) ≡ difference_from i (drop i left) (drop i right)
difference_ended left [] i is below = absurd (omega (arith, below))
difference_ended left (e ∷ es) i is below =
    let past : length left ≤ i = omega (arith, is) in
    rw (drop_all i left past, drop_more (e ∷ es) i e below) (ap Some (sym is))
