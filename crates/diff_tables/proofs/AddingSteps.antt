-- Literals added one after another, and what the table then stands for.
use Rattle.std.proofs.Common.{◌≡◌, ◌↔◌, ◌⊎◌, ltb, if◌then◌else◌, ℕ, zero, suc, ◌+◌, ◌-◌, ◌<◌, ◌≤◌, ◌==◌, ℤ, pos, neg_ℤ}
use Rattle.std.proofs.Common.{◌+ℤ◌, ◌-ℤ◌, ◌≤ℤ◌, true, false, List, [], ◌∷◌, ◌++◌, length, take, get_or, Option, Some}
use Rattle.std.proofs.Common.{None, slice_get, Ok, arith, refl, sym, ap, ◌∙◌, subst, inl, inr}
use Rattle.std.specs.List.{AllByRecursion}
use Rattle.std.proofs.lemmas.Int.{ints}
use Rattle.std.proofs.lemmas.Bool.{cases_eq, cases_lt, cases_Bool, eqb-true, eq-eqb, ne_eqb, lt-ltb, le-ltb}
use Rattle.std.proofs.lemmas.List.{take_more, length-take-le, append_assoc, append-nil, map-append, length_push}
use Rattle.std.proofs.lemmas.List.{get_or_push, get_or_append_left, get_or_at, take_at, length-append}
use Rattle.diff_graph.specs.declared.lit.Lit.{Lit}
use Rattle.diff_tables.specs.declared.hop.Hop.{Hop}
use Rattle.diff_graph.specs.Literals.{AreMet}
use Rattle.diff_graph.specs.Cycles.{literal_at, picked, pick_verdict}
use Rattle.diff_graph.specs.Limits.{IsNamed, AreNamed, IsSmall, AreSmall}
use Rattle.diff_tables.specs.Tables.{Numbered, literals_of, numbered_from, IsAmong, AreAmong, IsAtMost, kept_of}
use Rattle.diff_tables.specs.Tables.{StandsFor, IsCycleOf}
use Rattle.diff_tables.specs.Steps.{leaves_room, low_of, value_in, own_only, added, numbers_along, AreNewRows, IsSquare}
use Rattle.diff_tables.specs.Steps.{IsModest}
use Rattle.diff_tables.specs.Solutions.{valuation_of, AreSolution, IsUnsatisfiable, HasNegativeCycle}
use Rattle.diff_graph.proofs.Walks.{no_values_on_picks}
use Rattle.diff_tables.proofs.Closed.{IsWithin-value_in, IsWithin-shifted, low_of-reached}
use Rattle.diff_tables.proofs.Stands.{IsClosed-from_stands, AreMet-from_within, IsModest-from_stands, StandsFor-new}
use Rattle.diff_tables.proofs.Stands.{StandsFor-added, allowed-from_room, back-from_no_room, LeadsBack}
use Rattle.diff_tables.proofs.Stands.{IsCycleOf-from_back}
use Rattle.diff_tables.proofs.RowSteps.{kept_past_row, kept_past_rows}

-- ---- literals under their places
pub literals_of-numbered_from : (place : ℕ) (ls : List Lit) → literals_of (numbered_from place ls) ≡ ls
literals_of-numbered_from place [] = refl
literals_of-numbered_from place (l ∷ ls) = ap (λ rest. l ∷ rest) (literals_of-numbered_from (place + 1) ls)

numbered_from-push :
    (place : ℕ) (ls : List Lit) (l : Lit)
    → numbered_from place (ls ++ l ∷ []) ≡ numbered_from place ls ++ record { number = place + length ls; lit = l } ∷ []
numbered_from-push place [] l =
    let e : place ≡ place + 0 = omega arith in
    ap (λ n. record { number = n; lit = l } ∷ []) e
numbered_from-push place (m ∷ ls) l =
    let e : place + 1 + length ls ≡ place + suc (length ls) = omega arith in
    ap (λ rest. record { number = place; lit = m } ∷ rest)
    (numbered_from-push (place + 1) ls l
    ∙ ap (λ n. numbered_from (place + 1) ls ++ record { number = n; lit = l } ∷ []) e)

-- one more literal of the list
pub numbered_from-take :
    (ls : List Lit) (place : ℕ) → place < length ls
    → numbered_from 0 (take (place + 1) ls)
    ≡ numbered_from 0 (take place ls) ++ record { number = place; lit = literal_at ls place } ∷ []
numbered_from-take ls place inside =
    let e : 0 + length (take place ls) ≡ place = omega (arith, length-take-le place ls (omega arith)) in
    ap (λ xs. numbered_from 0 xs) (take_more ls place (record { x = 0; y = 0; k = pos 0 }) inside)
    ∙ numbered_from-push 0 (take place ls) (literal_at ls place)
    ∙ ap (λ n. numbered_from 0 (take place ls) ++ record { number = n; lit = literal_at ls place } ∷ []) e

pub All-at : (P : Lit → Type 0) (ls : List Lit) (place : ℕ) → AllByRecursion P ls → place < length ls
    → P (literal_at ls place)
All-at P [] place all inside = absurd (omega arith)
All-at P (l ∷ ls) zero all inside = all.0
All-at P (l ∷ ls) (suc place) all inside = All-at P ls place all.1 (omega arith)

pub All-take : (P : Lit → Type 0) (ls : List Lit) (count : ℕ) → AllByRecursion P ls → AllByRecursion P (take count ls)
All-take P [] zero all = tt
All-take P [] (suc count) all = tt
All-take P (l ∷ ls) zero all = tt
All-take P (l ∷ ls) (suc count) all = (all.0, All-take P ls count all.1)

pub All-append : (P : Lit → Type 0) (ks ls : List Lit) → AllByRecursion P ks → AllByRecursion P ls
    → AllByRecursion P (ks ++ ls)
All-append P [] ls first all = all
All-append P (k ∷ ks) ls first all = (first.0, All-append P ks ls first.1 all)

-- what holds of the literals of a list, and of some under their places, holds of both
pub All-with :
    (P : Lit → Type 0) (ps : List Numbered) (ls : List Lit) → AllByRecursion P (literals_of ps) → AllByRecursion P ls
    → AllByRecursion P (literals_of (ps ++ numbered_from 0 ls))
All-with P ps ls first all =
    subst (λ (xs : List Lit). AllByRecursion P xs)
    (ap (λ xs. literals_of ps ++ xs) (sym (literals_of-numbered_from 0 ls))
    ∙ sym (map-append (λ (p : Numbered). p.lit) ps (numbered_from 0 ls)))
    (All-append P (literals_of ps) ls first all)

-- ---- the loop over literals
pub record IsAdding (n : ℕ) (initial rows : List (List (Option Hop))) (ls : List Lit) (place : ℕ) : Type 0 where
  pub len : length rows ≡ length initial
  pub square : IsSquare rows
  pub stands : (ps : List Numbered) → StandsFor n (kept_of initial) ps
      → StandsFor n (kept_of rows) (ps ++ numbered_from 0 (take place ls))

-- before the first one the table is as it was
pub IsAdding-none : (rows : List (List (Option Hop))) (ls : List Lit) → IsSquare rows
    → IsAdding (length rows) rows rows ls 0
IsAdding-none rows ls square = record {
  len = refl;
  square = square;
  stands = λ ps stands.
      subst (λ (qs : List Numbered). StandsFor (length rows) (kept_of rows) qs)
      (sym (ap (λ (fs : List Lit). ps ++ numbered_from 0 fs) (none ls) ∙ append-nil ps)) stands;
}
  where
    none : (fs : List Lit) → take 0 fs ≡ []
    none [] = refl
    none (l ∷ fs) = refl

-- one literal more is added, where the new rows stand for it and those before
pub IsAdding-more :
    (n m : ℕ) (initial rows new : List (List (Option Hop))) (ls : List Lit) (place : ℕ)
    → IsAdding n initial rows ls place
    → place < length ls → length new ≡ length rows → IsSquare new → m ≡ n
    → ((ps : List Numbered) → StandsFor m (kept_of rows) ps
    → StandsFor m (kept_of new)
    (ps ++ record { number = place; lit = literal_at ls place } ∷ [])) → IsAdding n initial new ls (place + 1)
IsAdding-more n m initial rows new ls place so_far inside len square same inserted = record {
  len = len ∙ so_far.len;
  square = square;
  stands = λ ps stands.
      subst (λ (qs : List Numbered). StandsFor n (kept_of new) qs)
      (append_assoc ps (numbered_from 0 (take place ls)) (record { number = place; lit = literal_at ls place } ∷ [])
      ∙ ap (λ qs. ps ++ qs) (sym (numbered_from-take ls place inside)))
      (subst (λ (w : ℕ). StandsFor w (kept_of rows) (ps ++ numbered_from 0 (take place ls))
      → StandsFor w (kept_of new) (ps ++ numbered_from 0 (take place ls) ++ record {
        number = place;
        lit =
            literal_at ls place;
      } ∷ [])) same (inserted (ps ++ numbered_from 0 (take place ls))) (so_far.stands ps stands));
}

pub AreModest-adding :
    (n : ℕ) (initial rows : List (List (Option Hop))) (ls : List Lit) (place : ℕ)
    → IsAdding n initial rows ls place → n ≤ 256
    → (ps : List Numbered) → StandsFor n (kept_of initial) ps → AreSmall (literals_of ps) → AreSmall ls → (x y : ℕ)
    → IsModest 1000000 (kept_of rows x y)
AreModest-adding n initial rows ls place so_far few ps stands small_before small =
    IsModest-from_stands n (kept_of rows) (ps ++ numbered_from 0 (take place ls)) (so_far.stands ps stands)
    (All-with (λ l. IsSmall l) ps (take place ls) small_before (All-take (λ l. IsSmall l) ls place small)) few

-- ---- new rows
pub IsSquare-new : (n : ℕ) (rows : List (List (Option Hop))) → AreNewRows n n rows → IsSquare rows
IsSquare-new n rows new y below = (new.1 y (omega (arith, new.0))).0 ∙ sym new.0

-- rows that keep no more than a zero from each name to itself stand for no literal
pub StandsFor-new_rows : (n : ℕ) (rows : List (List (Option Hop))) → AreNewRows n n rows → StandsFor n (kept_of rows) []
StandsFor-new_rows n rows new =
    StandsFor-new n (kept_of rows)
    (λ x below. (record { k = pos 0; number = 0; second = x }, (new.1 x below).1 x below ∙ own_only-own x, refl))
    (λ x y h is_h. kept x y h is_h)
  where
    own_only-own : (x : ℕ) → own_only x x ≡ Some (record { k = pos 0; number = 0; second = x })
    own_only-own x = let e : (x == x) ≡ true = eq-eqb x x refl in rw e refl

    -- new rows keep nothing from one name to another
    kept : (x y : ℕ) (h : Hop) → kept_of rows x y ≡ Some h → (x ≡ y) × (x < n)
    kept x y h is_h =
        elim (cases_lt y n) [
          | inr past ↦
              absurd (let e : kept_of rows x y ≡ None = kept_past_rows rows x y (omega (arith, new.0)) in let f : Some h
              ≡ None = sym is_h ∙ e in cc)
          | inl y_below ↦
              elim (cases_lt x n) [
                | inr past ↦
                    absurd (let e : kept_of rows x y
                    ≡ None = kept_past_row rows (IsSquare-new n rows new) x y (omega (arith, new.0)) in
                    let f : Some h ≡ None = sym is_h
                    ∙ e in cc)
                | inl x_below ↦
                    elim (cases_Bool (x == y)) [
                      | inl same ↦ (eqb-true x y same, x_below)
                      | inr other ↦ absurd (
                          let e : kept_of rows x y ≡ own_only y x = (new.1 y y_below).1 x x_below in
                          let none : own_only y x ≡ None = rw other refl in
                          let f : Some h ≡ None = sym is_h ∙ e ∙ none in cc)
                    ]
              ]
        ]

-- ---- values
pub low_of-bounded : (row : ℕ → Option Hop) (n : ℕ) → ((x : ℕ) → IsModest 1000000 (row x))
    → neg_ℤ (pos 1000000) ≤ℤ low_of row n
low_of-bounded row n modest =
    elim (low_of-reached row n) [
      | inl none ↦ omega (arith, ints)
      | inr r ↦ by (row r.name) (modest r.name) r.at_most
    ]
  where
    by : (o : Option Hop) → IsModest 1000000 o → IsAtMost o (low_of row n) → neg_ℤ (pos 1000000) ≤ℤ low_of row n
    by None modest most = absurd most
    by (Some h) modest most =
        (let low : neg_ℤ (pos 1000000) ≤ℤ h.k = modest.0 in
        let high : h.k ≤ℤ low_of row n = most in omega (arith, ints))

-- values of the table, shifted to 0 at name 0, meet the list
pub solution-from_stands :
    (n : ℕ) (t : ℕ → ℕ → Option Hop) (ls : List Lit) (v : ℕ → ℤ) → StandsFor n t (numbered_from 0 ls)
    → ((x : ℕ) → x < n → v x ≡ value_in n t x -ℤ value_in n t 0) → AreMet v ls
solution-from_stands n t ls v stands values =
    subst (λ (xs : List Lit). AreMet v xs) (literals_of-numbered_from 0 ls)
    (AreMet-from_within n t (numbered_from 0 ls) stands v (record {
      at = λ x y xn yn k most.
          (let within : (value_in n t x -ℤ value_in n t 0) ≤ℤ ((value_in n t y -ℤ value_in n t 0) +ℤ k) =
          (IsWithin-shifted n t (value_in n t) (value_in n t 0)
          (IsWithin-value_in n t (IsClosed-from_stands n t (numbered_from 0 ls) stands))).at x y xn yn k most in
          rw (values x xn, values y yn) within);
    }))

-- ---- picks
slice_get-take : (xs : List Lit) (count i : ℕ) (l : Lit) → slice_get (take count xs) i ≡ Some l
    → slice_get xs i ≡ Some l
slice_get-take [] zero i l got = got
slice_get-take [] (suc count) i l got = got
slice_get-take (x ∷ xs) zero i l got = absurd (let none : None ≡ Some l = got in cc)
slice_get-take (x ∷ xs) (suc count) zero l got = got
slice_get-take (x ∷ xs) (suc count) (suc i) l got = slice_get-take xs count i l got

-- a numbered literal of a list is in the list at its number
place_of :
    (place : ℕ) (ls : List Lit) (number : ℕ) (l : Lit) → IsAmong (numbered_from place ls) number l
    → (place ≤ number) × (slice_get ls (number - place) ≡ Some l)
place_of place [] number l among = absurd among
place_of place (m ∷ ls) number l among =
    elim among [
      | inl here ↦
          (let same : place ≡ number = here.0 in
          let e : number - place ≡ 0 = omega arith in
          (omega arith, rw (e, here.1) refl))
      | inr there ↦
          (let rest : (place + 1 ≤ number) × (slice_get ls (number - (place + 1)) ≡ Some l) =
          place_of (place + 1) ls number l there in
          let e : number - place ≡ suc (number - (place + 1)) = omega (arith, rest.0) in
          (omega (arith, rest.0), rw e rest.1))
    ]

picked-from_among :
    (lits : List Lit) (ps : List Numbered)
    → ((number : ℕ) (l : Lit) → IsAmong ps number l → slice_get lits number ≡ Some l)
    → (numbers : List ℕ) (ls : List Lit) → AreAmong ps numbers ls → picked lits numbers ≡ Some ls
picked-from_among lits ps at [] [] among = refl
picked-from_among lits ps at [] (l ∷ ls) among = absurd among
picked-from_among lits ps at (number ∷ numbers) [] among = absurd among
picked-from_among lits ps at (number ∷ numbers) (l ∷ ls) among =
    rw (at number l among.0, picked-from_among lits ps at numbers ls among.1) refl

-- a cycle of the first literals under their places is one of the list
pub pick_verdict-from_cycle :
    (n : ℕ) (lits : List Lit) (place : ℕ) (numbers : List ℕ) → place < length lits
    → IsCycleOf n (numbered_from 0 (take place lits) ++ record { number = place; lit = literal_at lits place } ∷ [])
    numbers
    → pick_verdict lits numbers ≡ Ok tt
pick_verdict-from_cycle n lits place numbers inside cycle =
    let named =
    subst (λ (ps : List Numbered). AreAmong ps numbers cycle.literals)
    (sym (numbered_from-take lits place inside)) cycle.named in
    let got : picked lits numbers ≡ Some cycle.literals =
    picked-from_among lits (numbered_from 0 (take (place + 1) lits))
    (λ number l among. slice_get-take lits (place + 1) number l
    (subst (λ (i : ℕ). slice_get (take (place + 1) lits) i ≡ Some l) (sub-zero number)
    (place_of 0 (take (place + 1) lits) number l among).1))
    numbers cycle.literals named in
    rw got cycle.negative
  where
    sub-zero : (k : ℕ) → k - 0 ≡ k
    sub-zero k = omega arith

-- ---- what the solver answers
pub one_more_value :
    (f : ℕ → ℤ) (values : List ℤ) (x : ℕ) (z : ℤ)
    → (length values ≡ x) × ((y : ℕ) → y < x → get_or values y (pos 0) ≡ f y) → z ≡ f x
    → (length (values ++ z ∷ []) ≡ x + 1) × ((y : ℕ) → y < x + 1 → get_or (values ++ z ∷ []) y (pos 0) ≡ f y)
one_more_value f values x z so_far is_z = (
  length_push values z ∙ ap (λ k. k + 1) so_far.0,
  λ y below.
      elim (cases_eq y x) [
        | inl same ↦ rw same (get_or_push values z (pos 0) x so_far.0 ∙ is_z)
        | inr other ↦ get_or_append_left values (z ∷ []) (pos 0) y (omega (arith, so_far.0)) ∙ so_far.1 y (omega arith)
      ],
)

-- the values that a table gives are a solution of the literals that it stands for
pub AreSolution-from_stands :
    (n m : ℕ) (t : ℕ → ℕ → Option Hop) (ls : List Lit) (values : List ℤ)
    → StandsFor n t (numbered_from 0 ls) → m ≡ n → 0 < n
    → length values ≡ m → ((x : ℕ) → x < m → get_or values x (pos 0) ≡ value_in m t x -ℤ value_in m t 0)
    → AreSolution n ls values
AreSolution-from_stands n m t ls values stands same some len is_value =
    let is_value' : (x : ℕ) → x < n → get_or values x (pos 0) ≡ value_in n t x -ℤ value_in n t 0 =
    subst (λ (w : ℕ). (x : ℕ) → x < w → get_or values x (pos 0) ≡ value_in w t x -ℤ value_in w t 0) same is_value in (
      len ∙ same,
      is_value' 0 some ∙ nothing_left (value_in n t 0),
      solution-from_stands n t ls (valuation_of values) stands is_value',
    )
  where
    nothing_left : (z : ℤ) → z -ℤ z ≡ pos 0
    nothing_left z = omega (arith, ints)

-- a literal that leaves no room closes a negative cycle of no more literals than there are names
pub cycle-from_stands :
    (n m : ℕ) (t : ℕ → ℕ → Option Hop) (ls : List Lit) (place : ℕ) (picks : List ℕ)
    → StandsFor n t (numbered_from 0 (take place ls))
    → m ≡ n → AreNamed n ls → place < length ls
    → leaves_room (t (literal_at ls place).y (literal_at ls place).x) (literal_at ls place).k ≡ false
    → picks ≡ place ∷ numbers_along (λ z. t z (literal_at ls place).x) m (literal_at ls place).y (literal_at ls place).x
    → (pick_verdict ls picks ≡ Ok tt) × (length picks ≤ n)
cycle-from_stands n m t ls place picks stands same named inside no_room is_picks =
    let l : Lit = literal_at ls place in
    let back : LeadsBack t l = back-from_no_room t l no_room in
    let cycle : IsCycleOf n (numbered_from 0 (take place ls) ++ record { number = place; lit = l } ∷ [])
    (place ∷ numbers_along (λ z. t z l.x) n l.y l.x) =
    IsCycleOf-from_back n t (numbered_from 0 (take place ls)) stands place l
    (All-at (λ k. IsNamed n k) ls place named inside) back in
    let e : picks ≡ place ∷ numbers_along (λ z. t z l.x) n l.y l.x =
    is_picks ∙ ap (λ w. place ∷ numbers_along (λ z. t z l.x) w l.y l.x) same in
    rw e (pick_verdict-from_cycle n ls place (place ∷ numbers_along (λ z. t z l.x) n l.y l.x) inside cycle, cycle.few)

-- ---- unsatisfiable lists
-- more names than any that the literals use
bound_of : List Lit → ℕ
bound_of [] = 0
bound_of (l ∷ ls) = l.x + l.y + 1 + bound_of ls

pub AreNamed-wider : (m n : ℕ) (ls : List Lit) → m ≤ n → AreNamed m ls → AreNamed n ls
AreNamed-wider m n [] wider named = tt
AreNamed-wider m n (l ∷ ls) wider named =
    ((omega (arith, named.0.0), omega (arith, named.0.1)), AreNamed-wider m n ls wider named.1)

AreNamed-bound_of : (ls : List Lit) → AreNamed (bound_of ls) ls
unfolding bound_of
AreNamed-bound_of [] = tt
AreNamed-bound_of (l ∷ ls) = (
  (omega arith, omega arith),
  AreNamed-wider (bound_of ls) (l.x + l.y + 1 + bound_of ls) ls
      (omega arith) (AreNamed-bound_of ls),
)

-- a table of n names to which nothing was added
abbrev fresh : ℕ → ℕ → ℕ → Option Hop
fresh n x y = if ltb x n then own_only y x else None

-- the fresh table stands for no literal
StandsFor-fresh : (n : ℕ) → StandsFor n (fresh n) []
StandsFor-fresh n =
    StandsFor-new n (fresh n)
    (λ x below. (record { k = pos 0; number = 0; second = x }, rw (lt-ltb x n below, eq-eqb x x refl) refl, refl))
    (λ x y h is_h.
    elim (cases_lt x n) [
      | inr past ↦ absurd (let none : fresh n x y ≡ None = rw (le-ltb x n past) refl in
          let e : Some h ≡ None = sym is_h ∙ none in cc)
      | inl below ↦
          elim (cases_eq x y) [
            | inl same ↦ (same, below)
            | inr other ↦
                absurd (let none : fresh n x y ≡ None = rw (lt-ltb x n below, ne_eqb x y other) refl in
                let e : Some h ≡ None = sym is_h
                ∙ none in cc)
          ]
    ])

-- a table stands for the whole list, or the list has a negative cycle
stands_or_cycle :
    (n : ℕ) (rest done : List Lit) (t : ℕ → ℕ → Option Hop) → StandsFor n t (numbered_from 0 done)
    → AreNamed n (done ++ rest)
    → AreNamed n rest → ((u : ℕ → ℕ → Option Hop) × StandsFor n u (numbered_from 0 (done ++ rest)))
    ⊎ HasNegativeCycle (done ++ rest)
stands_or_cycle n [] done t stands named_all named =
    inl (t, subst (λ (ls : List Lit). StandsFor n t (numbered_from 0 ls)) (sym (append-nil done)) stands)
stands_or_cycle n (l ∷ rest) done t stands named_all named =
    elim (cases_Bool (leaves_room (t l.y l.x) l.k)) [
      | inl room ↦
          (let onward : (done ++ l ∷ []) ++ rest ≡ done ++ (l ∷ rest) = append_assoc done (l ∷ []) rest in
          let more = stands_or_cycle n rest (done ++ l ∷ []) (added t (length done) l)
          (subst (λ (ps : List Numbered). StandsFor n (added t (length done) l) ps)
          (ap (λ k. numbered_from 0 done ++ record { number = k; lit = l } ∷ []) (from_zero (length done))
          ∙ sym (numbered_from-push 0 done l))
          (StandsFor-added n t (numbered_from 0 done) stands (length done) l named.0 (allowed-from_room t l room)))
          (subst (λ (ls : List Lit). AreNamed n ls) (sym onward) named_all) named.1 in
          subst (λ (ls : List Lit). ((u : ℕ → ℕ → Option Hop) × StandsFor n u (numbered_from 0 ls))
          ⊎ HasNegativeCycle ls) onward more)
      | inr no_room ↦
          (let whole : List Lit = done ++ (l ∷ rest) in
          let here : literal_at whole (length done) ≡ l =
          get_or_at done l rest (record { x = 0; y = 0; k = pos 0 }) (length done) refl in
          let before : take (length done) whole ≡ done = take_at done (l ∷ rest) (length done) refl in
          let found =
          cycle-from_stands n n t whole (length done)
          (length done ∷ numbers_along (λ z. t z (literal_at whole (length done)).x) n
          (literal_at whole (length done)).y (literal_at whole (length done)).x)
          (subst (λ (ls : List Lit). StandsFor n t (numbered_from 0 ls)) (sym before) stands) refl named_all
          (omega (arith, length-append done (l ∷ rest)))
          (subst (λ (m : Lit). leaves_room (t m.y m.x) m.k ≡ false) (sym here) no_room) refl in
          inr (
            length done ∷ numbers_along (λ z. t z (literal_at whole (length done)).x) n
                (literal_at whole (length done)).y (literal_at whole (length done)).x,
            found.0,
          ))
    ]
  where
    from_zero : (k : ℕ) → k ≡ 0 + k
    from_zero k = omega arith

-- literals are unsatisfiable exactly where they have a negative cycle
pub unsatisfiable_iff_cycle : (ls : List Lit) → IsUnsatisfiable ls ↔ HasNegativeCycle ls
unsatisfiable_iff_cycle ls = (
  λ none.
      elim (stands_or_cycle (bound_of ls) ls [] (fresh (bound_of ls))
      (StandsFor-fresh (bound_of ls)) (AreNamed-bound_of ls)
      (AreNamed-bound_of ls)) [
        | inl table ↦
            absurd (none (
              table.1.possible.0,
              subst (λ (xs : List Lit). AreMet table.1.possible.0 xs)
                  (literals_of-numbered_from 0 ls) table.1.possible.1,
            ))
        | inr cycle ↦ cycle
      ],
  λ cycle met. no_values_on_picks met.0 ls cycle.0 cycle.1 met.1,
)
