-- Least values: what a table keeps from name 0, and floors as literals.
use Rattle.std.proofs.Common.{◌≡◌, ℕ, zero, suc, ◌+◌, ◌<◌, ◌≤◌, ℤ, pos, negsuc, ◌+ℤ◌, ◌-ℤ◌, ◌≤ℤ◌, false, List, [], ◌∷◌}
use Rattle.std.proofs.Common.{◌++◌, length, take, get_or, Option, Some, None, arith, refl, sym, ap, ◌∙◌, subst, inl}
use Rattle.std.proofs.Common.{inr}
use Rattle.std.specs.List.{AllByRecursion}
use Rattle.std.proofs.lemmas.Int.{ints}
use Rattle.std.proofs.lemmas.List.{take_more, length-take-le, map-append}
use Rattle.diff_graph.specs.declared.lit.Lit.{Lit}
use Rattle.diff_tables.specs.declared.hop.Hop.{Hop}
use Rattle.diff_graph.specs.Literals.{Meets, AreMet}
use Rattle.diff_graph.specs.Cycles.{literal_at}
use Rattle.diff_graph.specs.Limits.{IsNamed, AreNamed, AreSmall}
use Rattle.diff_tables.specs.Tables.{Numbered, literals_of, numbered_from, IsAtMost, StandsFor, kept_of}
use Rattle.diff_tables.specs.Steps.{leaves_room, AreNewRows}
use Rattle.diff_tables.specs.Solutions.{valuation_of, MeetsFloors, AreLeast, AreFloors, floors_from, least_of}
use Rattle.diff_tables.specs.Solutions.{AreLeastMeeting, HasLiteral, IsBoundedBelow}
use Rattle.diff_tables.proofs.Closed.{IsClosed}
use Rattle.diff_tables.proofs.Stands.{IsClosed-from_stands, IsWithin-from_met, AreMet-from_within}
use Rattle.diff_tables.proofs.Stands.{allowed-from_possible, back-from_no_room, not_allowed-from_back}
use Rattle.diff_tables.proofs.AddingSteps.{StandsFor-new_rows, literals_of-numbered_from, All-at, All-take, All-append}
use Rattle.diff_tables.proofs.AddingSteps.{All-with}

-- the first and the second of two lists of which all holds
pub All-first : (P : Lit → Type 0) (ks ls : List Lit) → AllByRecursion P (ks ++ ls) → AllByRecursion P ks
All-first P [] ls all = tt
All-first P (k ∷ ks) ls all = (all.0, All-first P ks ls all.1)

pub All-second : (P : Lit → Type 0) (ks ls : List Lit) → AllByRecursion P (ks ++ ls) → AllByRecursion P ls
All-second P [] ls all = all
All-second P (k ∷ ks) ls all = All-second P ks ls all.1

pub All-has : (P : Lit → Type 0) (ls : List Lit) (l : Lit) → AllByRecursion P ls → HasLiteral ls l → P l
All-has P [] l all has = absurd has
All-has P (m ∷ ms) l all has = elim has [ inl here ↦ subst P here all.0 | inr there ↦ All-has P ms l all.1 there ]

-- where a literal is refused, no valuation meets the list so far and the literals
pub no_values_at_stop :
    (n : ℕ) (t : ℕ → ℕ → Option Hop) (ps : List Numbered) (ls : List Lit) (place : ℕ)
    → StandsFor n t (ps ++ numbered_from 0 (take place ls)) → AreNamed n ls → place < length ls
    → leaves_room (t (literal_at ls place).y (literal_at ls place).x) (literal_at ls place).k ≡ false → (v : ℕ → ℤ)
    → AreMet v (literals_of ps) → AreMet v ls → ⊥
no_values_at_stop n t ps ls place stands named inside no_room v met_before met =
    let l : Lit = literal_at ls place in
    let met_so_far : AreMet v (literals_of (ps ++ numbered_from 0 (take place ls))) =
    All-with (λ m. Meets v m) ps (take place ls) met_before (All-take (λ m. Meets v m) ls place met) in
    not_allowed-from_back t l (back-from_no_room t l no_room)
    (allowed-from_possible n t (ps ++ numbered_from 0 (take place ls)) stands place l
    (All-at (λ m. IsNamed n m) ls place named inside) (v, (met_so_far, All-at (λ m. Meets v m) ls place met inside)))

-- the literals of two lists under their places
pub literals_of-both : (ks ls : List Lit) → literals_of (numbered_from 0 ks ++ numbered_from 0 ls) ≡ ks ++ ls
literals_of-both ks ls =
    map-append (λ (p : Numbered). p.lit) (numbered_from 0 ks) (numbered_from 0 ls)
    ∙ ap (λ xs. xs ++ literals_of (numbered_from 0 ls)) (literals_of-numbered_from 0 ks)
    ∙ ap (λ xs. ks ++ xs) (literals_of-numbered_from 0 ls)

-- an offset that is kept at all
at_most-some : (o : Option Hop) (k : ℤ) → IsAtMost o k → (h : Hop) × (o ≡ Some h)
at_most-some None k most = absurd most
at_most-some (Some h) k most = (h, refl)

-- something is kept from name 0 to each name that is bounded from it
kept_from_zero :
    (n : ℕ) (t : ℕ → ℕ → Option Hop) (ks ls : List Lit)
    → StandsFor n t (numbered_from 0 ks ++ numbered_from 0 ls) → 0 < n
    → IsBoundedBelow n ls → (x : ℕ) → x < n → (h : Hop) × (t 0 x ≡ Some h)
kept_from_zero n t ks ls stands some bounded x xn =
    let bound = bounded x xn in
    at_most-some (t 0 x) bound.0
    ((stands.tight 0 x some xn bound.0).1 (λ v met.
    All-has (λ m. Meets v m) ls (record { x = 0; y = x; k = bound.0 })
    (All-second (λ m. Meets v m) ks ls (subst (λ (xs : List Lit). AreMet v xs) (literals_of-both ks ls) met)) bound.1))

-- the negations of what is kept from name 0 are the least values
pub AreLeastMeeting-from_stands :
    (n m : ℕ) (t : ℕ → ℕ → Option Hop) (ks ls : List Lit) (values : List ℤ)
    → StandsFor n t (numbered_from 0 ks ++ numbered_from 0 ls)
    → m ≡ n → 0 < n → IsBoundedBelow n ls → length values ≡ m
    → ((x : ℕ) → x < m → get_or values x (pos 0) ≡ least_of (t 0 x))
    → AreLeastMeeting n (ks ++ ls) values
AreLeastMeeting-from_stands n m t ks ls values stands same some bounded len is_value = record {
  len = len ∙ same;
  zero_first =
      (let own : (h : Hop) × (t 0 0 ≡ Some h) × (h.k ≡ pos 0) = stands.own 0 some in
      let none : own.0.k ≡ pos 0 = own.2 in
      let here : get_or values 0 (pos 0) ≡ pos 0 -ℤ own.0.k = value_at 0 some ∙ ap least_of own.1 in
      omega (arith, ints));
  met =
      subst (λ (xs : List Lit). AreMet (valuation_of values) xs) (literals_of-both ks ls)
      (AreMet-from_within n t ps stands (valuation_of values) (record {
        at = λ x y xn yn k most.
            (let front : (h : Hop) × (t 0 x ≡ Some h) = kept_from_zero n t ks ls stands some bounded x xn in
            let back : (h : Hop) × (t 0 y ≡ Some h) = kept_from_zero n t ks ls stands some bounded y yn in
            let through : IsAtMost (t 0 y) (front.0.k +ℤ k) =
            closed.along 0 x y some xn yn front.0.k k (rw front.1 (omega (arith, ints))) most in
            let through' : back.0.k ≤ℤ (front.0.k +ℤ k) = rw back.1 at through in
            let left : get_or values x (pos 0) ≡ pos 0 -ℤ front.0.k = value_at x xn ∙ ap least_of front.1 in
            let right : get_or values y (pos 0) ≡ pos 0 -ℤ back.0.k = value_at y yn ∙ ap least_of back.1 in
            omega (arith, ints));
      }));
  least = λ v at_zero met x xn.
      (let front : (h : Hop) × (t 0 x ≡ Some h) = kept_from_zero n t ks ls stands some bounded x xn in
      let left : get_or values x (pos 0) ≡ pos 0 -ℤ front.0.k = value_at x xn ∙ ap least_of front.1 in
      let met' : AreMet v (literals_of (numbered_from 0 ks ++ numbered_from 0 ls)) =
      subst (λ (xs : List Lit). AreMet v xs) (sym (literals_of-both ks ls)) met in
      let within : v 0 ≤ℤ (v x +ℤ front.0.k) =
      (IsWithin-from_met n t ps stands v met').at 0 x some xn front.0.k (rw front.1 (omega (arith, ints))) in
      omega (arith, ints));
}
  where
    ps : List Numbered
    ps = numbered_from 0 ks ++ numbered_from 0 ls

    closed : IsClosed n t
    closed = IsClosed-from_stands n t (numbered_from 0 ks ++ numbered_from 0 ls) stands

    value_at : (x : ℕ) → x < n → get_or values x (pos 0) ≡ least_of (t 0 x)
    value_at x xn = is_value x (omega arith)

-- ---- floors
pub floors_from-push :
    (x : ℕ) (floors : List ℤ) (f : ℤ)
    → floors_from x (floors ++ f ∷ []) ≡ floors_from x floors
    ++ record { x = 0; y = x + length floors; k = pos 0 -ℤ f } ∷ []
floors_from-push x [] f =
    let e : x ≡ x + 0 = omega arith in
    ap (λ y. record { x = 0; y = y; k = pos 0 -ℤ f } ∷ []) e
floors_from-push x (g ∷ floors) f =
    let e : x + 1 + length floors ≡ x + suc (length floors) = omega arith in
    ap (λ rest. record { x = 0; y = x; k = pos 0 -ℤ g } ∷ rest)
    (floors_from-push (x + 1) floors f
    ∙ ap (λ y. floors_from (x + 1) floors ++ record { x = 0; y = y; k = pos 0 -ℤ f } ∷ []) e)

-- one more floor
pub floors_from-take :
    (floors : List ℤ) (x : ℕ) → x < length floors
    → floors_from 0 (take (x + 1) floors)
    ≡ floors_from 0 (take x floors) ++ record { x = 0; y = x; k = pos 0 -ℤ get_or floors x (pos 0) } ∷ []
floors_from-take floors x inside =
    let e : 0 + length (take x floors) ≡ x = omega (arith, length-take-le x floors (omega arith)) in
    ap (λ fs. floors_from 0 fs) (take_more floors x (pos 0) inside)
    ∙ floors_from-push 0 (take x floors) (get_or floors x (pos 0))
    ∙ ap (λ y. floors_from 0 (take x floors) ++ record { x = 0; y = y; k = pos 0 -ℤ get_or floors x (pos 0) } ∷ []) e

pub AreNamed-floors_from : (n x : ℕ) (floors : List ℤ) → 0 < n → x + length floors ≤ n
    → AreNamed n (floors_from x floors)
AreNamed-floors_from n x [] some room = tt
AreNamed-floors_from n x (f ∷ fs) some room =
    ((some, omega arith), AreNamed-floors_from n (x + 1) fs some (omega arith))

pub AreSmall-floors_from : (x : ℕ) (floors : List ℤ) → AreFloors floors → AreSmall (floors_from x floors)
AreSmall-floors_from x [] are = tt
AreSmall-floors_from x (f ∷ fs) are =
    let low : negsuc 999 ≤ℤ f = are.0.0 in
    let high : f ≤ℤ pos 1000 = are.0.1 in
    ((omega (arith, ints), omega (arith, ints)), AreSmall-floors_from (x + 1) fs are.1)

pub length-floors_from : (x : ℕ) (floors : List ℤ) → length (floors_from x floors) ≡ length floors
length-floors_from x [] = refl
length-floors_from x (f ∷ fs) = ap suc (length-floors_from (x + 1) fs)

has_floor :
    (x : ℕ) (floors : List ℤ) (y : ℕ) → y < length floors
    → HasLiteral (floors_from x floors) (record { x = 0; y = x + y; k = pos 0 -ℤ get_or floors y (pos 0) })
has_floor x [] y inside = absurd (omega arith)
has_floor x (f ∷ fs) zero inside =
    inl (let e : x ≡ x + 0 = omega arith in ap (λ y. record { x = 0; y = y; k = pos 0 -ℤ f }) e)
has_floor x (f ∷ fs) (suc y) inside =
    inr (let e : x + 1 + y ≡ x + suc y = omega arith in
    subst (λ (z : ℕ). HasLiteral (floors_from (x + 1) fs) (record { x = 0; y = z; k = pos 0 -ℤ get_or fs y (pos 0) })) e
    (has_floor (x + 1) fs y (omega arith)))

has_floor_at :
    (floors : List ℤ) (y : ℕ) → y < length floors
    → HasLiteral (floors_from 0 floors) (record { x = 0; y = y; k = pos 0 -ℤ get_or floors y (pos 0) })
has_floor_at floors y inside =
    let e : 0 + y ≡ y = omega arith in
    subst (λ (z : ℕ). HasLiteral (floors_from 0 floors) (record { x = 0; y = z; k = pos 0 -ℤ get_or floors y (pos 0) }))
    e (has_floor 0 floors y inside)

pub IsBoundedBelow-floors_from : (floors : List ℤ) → IsBoundedBelow (length floors) (floors_from 0 floors)
IsBoundedBelow-floors_from floors y inside = (pos 0 -ℤ get_or floors y (pos 0), has_floor_at floors y inside)

-- a valuation with 0 at name 0 meets the floors as literals exactly where it is at least the floors
pub floors-from_met : (floors : List ℤ) (v : ℕ → ℤ) → v 0 ≡ pos 0
    → AreMet v (floors_from 0 floors) → MeetsFloors floors v
floors-from_met floors v at_zero met x inside =
    let here : v 0 ≤ℤ (v x +ℤ (pos 0 -ℤ get_or floors x (pos 0))) =
    All-has (λ m. Meets v m) (floors_from 0 floors) (record { x = 0; y = x; k = pos 0 -ℤ get_or floors x (pos 0) }) met
    (has_floor_at floors x inside) in
    omega (arith, ints)

-- a valuation with 0 at name 0 that is at least the floors meets them as literals
met-from_floors :
    (x : ℕ) (floors : List ℤ) (v : ℕ → ℤ) → v 0 ≡ pos 0
    → ((y : ℕ) → y < length floors → get_or floors y (pos 0) ≤ℤ v (x + y))
    → AreMet v (floors_from x floors)
met-from_floors x [] v at_zero above = tt
met-from_floors x (f ∷ fs) v at_zero above =
    let e : x + 0 ≡ x = omega arith in
    let here : f ≤ℤ v x = subst (λ (z : ℕ). f ≤ℤ v z) e (above 0 (omega arith)) in (
      omega (arith, ints),
      met-from_floors (x + 1) fs v at_zero (λ y inside.
          (let e : x + suc y ≡ x + 1 + y = omega arith in
          subst (λ (z : ℕ). get_or fs y (pos 0) ≤ℤ v z) e (above (suc y) (omega arith)))),
    )

pub AreMet-floors_from : (floors : List ℤ) (v : ℕ → ℤ) → v 0 ≡ pos 0 → MeetsFloors floors v
    → AreMet v (floors_from 0 floors)
AreMet-floors_from floors v at_zero above =
    met-from_floors 0 floors v at_zero (λ y inside.
    (let e : y ≡ 0 + y = omega arith in subst (λ (z : ℕ). get_or floors y (pos 0) ≤ℤ v z) e (above y inside)))

-- least values that meet the literals and the floors as literals
pub AreLeast-from_meeting :
    (ls : List Lit) (floors values : List ℤ) (n : ℕ) → n ≡ length floors
    → AreLeastMeeting n (ls ++ floors_from 0 floors) values
    → AreLeast ls floors values
AreLeast-from_meeting ls floors values n same least = record {
  len = least.len ∙ same;
  zero_first = least.zero_first;
  met = All-first (λ m. Meets (valuation_of values) m) ls (floors_from 0 floors) least.met;
  above =
      floors-from_met floors (valuation_of values) least.zero_first
      (All-second (λ m. Meets (valuation_of values) m) ls (floors_from 0 floors) least.met);
  least = λ v at_zero met above x inside.
      least.least v at_zero (All-append (λ m. Meets v m) ls (floors_from 0 floors) met
      (AreMet-floors_from floors v at_zero above)) x (omega arith);
}

-- a floor at a place
pub floor-at :
    (floors : List ℤ) (x : ℕ) → AreFloors floors → x < length floors
    → (negsuc 999 ≤ℤ get_or floors x (pos 0)) × (get_or floors x (pos 0) ≤ℤ pos 1000)
floor-at [] x are inside = absurd (omega arith)
floor-at (f ∷ fs) zero are inside = are.0
floor-at (f ∷ fs) (suc x) are inside = floor-at fs x are.1 (omega arith)

-- what the table stands for once the first list is added to new rows
pub StandsFor-first :
    (n m : ℕ) (old new : List (List (Option Hop))) (ls : List Lit) → AreNewRows n n old → m ≡ n
    → ((ps : List Numbered) → StandsFor n (kept_of old) ps → StandsFor n (kept_of new) (ps ++ numbered_from 0 ls))
    → StandsFor m (kept_of new) (numbered_from 0 ls)
StandsFor-first n m old new ls are_new same added =
    subst (λ (w : ℕ). StandsFor w (kept_of new) (numbered_from 0 ls)) (sym same)
    (added [] (StandsFor-new_rows n old are_new))

pub AreSmall-numbered_from : (ls : List Lit) → AreSmall ls → AreSmall (literals_of (numbered_from 0 ls))
AreSmall-numbered_from ls small = subst (λ (xs : List Lit). AreSmall xs) (sym (literals_of-numbered_from 0 ls)) small

pub AreMet-numbered_from : (v : ℕ → ℤ) (ls : List Lit) → AreMet v ls → AreMet v (literals_of (numbered_from 0 ls))
AreMet-numbered_from v ls met = subst (λ (xs : List Lit). AreMet v xs) (sym (literals_of-numbered_from 0 ls)) met
