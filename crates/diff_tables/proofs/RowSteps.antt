-- Rows of a table: an element-wise change of a row, as far as it has come.
use Rattle.std.proofs.Common.{◌≡◌, ◌≢◌, ℕ, suc, ◌+◌, ◌-◌, ◌<◌, ◌≤◌, List, [], ◌∷◌, ◌++◌, length, get_or, set, Option}
use Rattle.std.proofs.Common.{Some, None, ◌==◌, true, false, arith, refl, sym, ap, ◌∙◌, subst, inl, inr, if◌then◌else◌}
use Rattle.std.proofs.Common.{pos, negsuc, ◌≤ℤ◌}
use Rattle.std.proofs.lemmas.Int.{ints}
use Rattle.std.proofs.lemmas.Bool.{cases_eq, cases_lt, ne_eqb}
use Rattle.std.proofs.lemmas.List.{get_or_past, append-nil, append_assoc, get_or-set_same, get_or-set_other, length-set}
use Rattle.diff_tables.specs.declared.hop.Hop.{Hop}
use Rattle.diff_graph.specs.declared.lit.Lit.{Lit}
use Rattle.diff_graph.specs.Limits.{IsNamed, IsSmall}
use Rattle.diff_tables.specs.Tables.{kept_of}
use Rattle.diff_tables.specs.Steps.{way_of, joined, lower_of, added, numbers_along, IsLowered, AreLowered, IsSquare}
use Rattle.diff_tables.specs.Steps.{IsModest}

-- below a place each element is changed, and from there on it is as it was
pub record DoneBelow (change : ℕ → Option Hop → Option Hop) (old new : List (Option Hop)) (place : ℕ) : Type 0 where
  pub len : length new ≡ length old
  pub done : (x : ℕ) → x < place → get_or new x None ≡ change x (get_or old x None)
  pub left : (x : ℕ) → place ≤ x → get_or new x None ≡ get_or old x None

-- the element at the place is changed too
pub DoneBelow-more :
    (change : ℕ → Option Hop → Option Hop) (old new : List (Option Hop)) (place : ℕ) (hop : Option Hop)
    → DoneBelow change old new place
    → place < length old → hop ≡ change place (get_or new place None)
    → DoneBelow change old (set new place hop) (place + 1)
DoneBelow-more change old new place hop so_far inside changed =
    let within : place < length new = omega (arith, so_far.len) in
    record {
      len = length-set new place hop ∙ so_far.len;
      done = λ x below.
          elim (cases_eq x place) [
            | inl same ↦
                rw same (get_or-set_same new place hop None within ∙ changed
                ∙ ap (change place) (so_far.left place (omega arith)))
            | inr other ↦ get_or-set_other new place x hop None other ∙ so_far.done x (omega arith)
          ];
      left = λ x above.
          (let other : x ≢ place = omega arith in
          get_or-set_other new place x hop None other ∙ so_far.left x (omega arith));
    }

-- an element that the change leaves as it was
pub DoneBelow-same :
    (change : ℕ → Option Hop → Option Hop) (old new : List (Option Hop)) (place : ℕ) → DoneBelow change old new place
    → change place (get_or new place None) ≡ get_or new place None → DoneBelow change old new (place + 1)
DoneBelow-same change old new place so_far same = record {
  len = so_far.len;
  done = λ x below.
      elim (cases_eq x place) [
        | inl here ↦ rw here (sym same ∙ ap (change place) (so_far.left place (omega arith)))
        | inr other ↦ so_far.done x (omega arith)
      ];
  left = λ x above. so_far.left x (omega arith);
}

-- one hop of a chain
pub numbers_along-here : (f : ℕ → Option Hop) (most i x y : ℕ) → i < most → x ≡ y → numbers_along f (most - i) x y ≡ []
numbers_along-here f most i x y below same =
    let e : most - i ≡ suc (most - (i + 1)) = omega arith in
    rw e (grind arith)

pub numbers_along-end : (f : ℕ → Option Hop) (most i x y : ℕ) → i < most → f x ≡ None
    → numbers_along f (most - i) x y ≡ []
numbers_along-end f most i x y below none =
    let e : most - i ≡ suc (most - (i + 1)) = omega arith in
    rw (e, none) (elim (x == y) as (λ b. if◌then◌else◌ {A = List ℕ} b [] [] ≡ []) [ true ↦ refl | false ↦ refl ])

pub numbers_along-more :
    (f : ℕ → Option Hop) (most i x y : ℕ) (h : Hop) → i < most → (x ≡ y → ⊥) → f x ≡ Some h
    → numbers_along f (most - i) x y ≡ h.number ∷ numbers_along f (most - (i + 1)) h.second y
numbers_along-more f most i x y h below other is_h =
    let e : most - i ≡ suc (most - (i + 1)) = omega arith in
    let test : (x == y) ≡ false = ne_eqb x y other in
    rw (e, test, is_h) refl

-- some numbers were put at the end of a list, and with the rest they are all
pub record HasPut (before after rest whole : List ℕ) : Type 0 where
  pub put : List ℕ
  pub is_put : after ≡ before ++ put
  pub all : put ++ rest ≡ whole

-- they are all, where the chain has ended
pub HasPut-ended : (before after rest whole : List ℕ) → HasPut before after rest whole → rest ≡ []
    → after ≡ before ++ whole
HasPut-ended before after rest whole has ended =
    let put_all : has.put ≡ whole = sym (append-nil has.put) ∙ rw ended at has.all in
    has.is_put ∙ ap (λ (xs : List ℕ). before ++ xs) put_all

-- and one more is put, where it goes on
pub HasPut-more :
    (before after rest later whole : List ℕ) (number : ℕ) → HasPut before after rest whole → rest ≡ number ∷ later
    → HasPut before (after ++ number ∷ []) later whole
HasPut-more before after rest later whole number has on = record {
  put = has.put ++ number ∷ [];
  is_put = ap (λ (xs : List ℕ). xs ++ number ∷ []) has.is_put ∙ append_assoc before has.put (number ∷ []);
  all = append_assoc has.put (number ∷ []) later ∙ rw on at has.all;
}

pub numbers_along-none : (f : ℕ → Option Hop) (most i x y : ℕ) → most ≤ i → numbers_along f (most - i) x y ≡ []
numbers_along-none f most i x y past =
    let e : most - i ≡ 0 = omega arith in
    rw e refl

-- ---- lowered rows
pub AreLowered-more :
    (ways : List (Option Hop)) (from : ℕ) (old new : List (List (Option Hop))) (place : ℕ) (row : List (Option Hop))
    → AreLowered ways from old new place → place < length old → IsLowered ways from (get_or new place []) row
    → AreLowered ways from old (set new place row) (place + 1)
AreLowered-more ways from old new place row so_far inside lowered =
    let within : place < length new = omega (arith, so_far.len) in
    record {
      len = length-set new place row ∙ so_far.len;
      done = λ y below.
          elim (cases_eq y place) [
            | inl same ↦
                rw (same, get_or-set_same new place row [] within)
                (subst (λ (r : List (Option Hop)). IsLowered ways from r row) (so_far.left place (omega arith)) lowered)
            | inr other ↦ rw (get_or-set_other new place y row [] other) (so_far.done y (omega arith))
          ];
      left = λ y above.
          (let other : y ≢ place = omega arith in
          get_or-set_other new place y row [] other ∙ so_far.left y (omega arith));
    }

-- what a row has past its end
pub kept_past_row : (rows : List (List (Option Hop))) → IsSquare rows → (x y : ℕ) → length rows ≤ x
    → kept_of rows x y ≡ None
kept_past_row rows square x y past =
    elim (cases_lt y (length rows)) [
      | inl below ↦ get_or_past (get_or rows y []) x None (omega (arith, square y below))
      | inr beyond ↦ rw (get_or_past rows y [] beyond) refl
    ]

pub kept_past_rows : (rows : List (List (Option Hop))) → (x y : ℕ) → length rows ≤ y → kept_of rows x y ≡ None
kept_past_rows rows x y past = rw (get_or_past rows y [] past) refl

-- lowered rows keep what the step says
pub kept_of-lowered :
    (old new : List (List (Option Hop))) (ways : List (Option Hop)) (number : ℕ) (l : Lit)
    → IsSquare old → IsNamed (length old) l
    → length new ≡ length old → ((y : ℕ) → y < length old → IsLowered ways l.y (get_or old y []) (get_or new y []))
    → ((x : ℕ) → x < length old → get_or ways x None ≡ way_of number l x (kept_of old x l.x)) → (x y : ℕ)
    → kept_of new x y ≡ added (kept_of old) number l x y
kept_of-lowered old new ways number l square named len lowered ways_are x y =
    elim (cases_lt y (length old)) [
      | inl y_below ↦
          elim (cases_lt x (length old)) [
            | inl x_below ↦
                (let here = (lowered y y_below).at x (omega (arith, square y y_below)) in
                here ∙ rw (ways_are x x_below) refl)
            | inr x_past ↦
                (let none : kept_of old x y ≡ None = kept_past_row old square x y x_past in
                let no_front : kept_of old x l.x ≡ None = kept_past_row old square x l.x x_past in
                let past : kept_of new x y ≡ None =
                get_or_past (get_or new y []) x None (omega (arith, square y y_below, (lowered y y_below).len)) in
                past ∙ rw (none, no_front) refl)
          ]
      | inr y_past ↦
          (let none : kept_of old x y ≡ None = kept_past_rows old x y y_past in
          let no_back : kept_of old l.y y ≡ None = kept_past_rows old l.y y y_past in
          let past : kept_of new x y ≡ None = kept_past_rows new x y (omega (arith, len)) in
          past ∙ rw (none, no_back) (sym (joined-none (way_of number l x (kept_of old x l.x)))))
    ]
  where
    joined-none : (way : Option Hop) → lower_of None (joined way None) ≡ None
    joined-none None = refl
    joined-none (Some w) = refl

-- rows stay square
pub IsSquare-lowered :
    (ways : List (Option Hop)) (from : ℕ) (old new : List (List (Option Hop))) → IsSquare old → length new ≡ length old
    → ((y : ℕ) → y < length old → IsLowered ways from (get_or old y []) (get_or new y [])) → IsSquare new
IsSquare-lowered ways from old new square len lowered y below =
    let inside : y < length old = omega (arith, len) in
    (lowered y inside).len ∙ square y inside ∙ sym len

-- a literal takes an offset little further from 0
pub IsModest-way_of :
    (number : ℕ) (l : Lit) (x : ℕ) (front : Option Hop) → IsSmall l → IsModest 1000000 front
    → IsModest 2000000 (way_of number l x front)
IsModest-way_of number l x None small modest = tt
IsModest-way_of number l x (Some f) small modest =
    let low : negsuc 1000 ≤ℤ l.k = small.0 in
    let high : l.k ≤ℤ pos 1001 = small.1 in
    let low' : negsuc 999999 ≤ℤ f.k = modest.0 in
    let high' : f.k ≤ℤ pos 1000000 = modest.1 in
    (omega (arith, ints), omega (arith, ints))
