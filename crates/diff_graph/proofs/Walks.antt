-- Walks along literals: what picks name, and why a negative cycle leaves no values.
use Rattle.std.proofs.Common.{◌≡◌, ℕ, zero, suc, ◌+◌, ◌<◌, ◌≤◌, ℤ, pos, ◌+ℤ◌, ◌≤ℤ◌, ◌<ℤ◌, true, false, nat_eq, int_lt}
use Rattle.std.proofs.Common.{List, [], ◌∷◌, length, get_or, drop, Option, Some, None, is_some, option_and_then}
use Rattle.std.proofs.Common.{slice_get, Ok, Err, arith, refl, sym, ap, ◌∙◌, subst, inl, inr}
use Rattle.std.proofs.lemmas.Int.{ints}
use Rattle.std.proofs.lemmas.Bool.{false≢true, cases_lt, cases_Bool, and_parts, eqb-true}
use Rattle.std.proofs.lemmas.Option.{slice_get_past, slice_get-get_or}
use Rattle.std.proofs.lemmas.List.{at_drop_more}
use Rattle.diff_graph.specs.declared.lit.Lit.{Lit}
use Rattle.diff_graph.specs.declared.lit.PickError.TheVariants.{NotACycle, NotNegative}
use Rattle.diff_graph.specs.Literals.{Meets, AreMet}
use Rattle.diff_graph.specs.Cycles.{is_walk, is_closed_walk, weight, picked, literal_at, named_by, cycle_verdict}
use Rattle.diff_graph.specs.Cycles.{verdict_of_picked, pick_verdict}

-- a pick past the end leaves nothing picked
pub picked_past : (lits : List Lit) (ns : List ℕ) (i : ℕ) → i < length ns
    → length lits ≤ get_or ns i 0 → picked lits ns ≡ None
picked_past lits [] i below past = absurd (omega arith)
picked_past lits (n ∷ ns) zero below past = rw (slice_get_past lits n past)
picked_past lits (n ∷ ns) (suc i) below past =
    let rest : picked lits ns ≡ None = picked_past lits ns i (omega arith) past in
    by (slice_get lits n) rest
  where
    by : (o : Option Lit) → picked lits ns ≡ None
        → option_and_then (λ l. option_and_then (λ ls. Some (l ∷ ls)) (picked lits ns)) o ≡ None
    by None rest = refl
    by (Some l) rest = rw rest

-- picks below the number of literals name the literals at their places
pub picked_below :
    (lits : List Lit) (ns : List ℕ) → ((i : ℕ) → i < length ns → get_or ns i 0 < length lits)
    → picked lits ns ≡ Some (named_by lits ns)
picked_below lits [] below = refl
picked_below lits (n ∷ ns) below =
    let rest : picked lits ns ≡ Some (named_by lits ns) =
    picked_below lits ns (λ i inside. below (suc i) (omega arith)) in
    rw (slice_get-get_or lits n (record { x = 0; y = 0; k = pos 0 }) (below 0 (omega arith)), rest)

-- what is picked is named by places below the number of literals
pub place_below : (lits : List Lit) (ns : List ℕ) → is_some (picked lits ns) ≡ true → (i : ℕ) → i < length ns
    → get_or ns i 0 < length lits
place_below lits ns some i inside = by (picked_past lits ns i inside)
  where
    by : (length lits ≤ get_or ns i 0 → picked lits ns ≡ None) → get_or ns i 0 < length lits
    by past =
        elim (cases_lt (get_or ns i 0) (length lits))
        [ inl lt ↦ lt | inr le ↦ absurd (false≢true (ap is_some (sym (past le)) ∙ some)) ]

-- a test on integers, and what it tells
pub int_lt-true : (a b : ℤ) → int_lt a b ≡ true → a <ℤ b
int_lt-true a b e = grind (arith, ints)

pub int_lt-false : (a b : ℤ) → b ≤ℤ a → int_lt a b ≡ false
int_lt-false a b high = grind (arith, ints)

pub int_lt-none : (a b : ℤ) → int_lt a b ≡ false → b ≤ℤ a
int_lt-none a b e = grind (arith, ints)

pub lt-int_lt : (a b : ℤ) → a <ℤ b → int_lt a b ≡ true
lt-int_lt a b low = grind (arith, ints)

-- a walk whose literals are met bounds its first name by its last
pub walk_bounds : (v : ℕ → ℤ) (ls : List Lit) (from to : ℕ) → is_walk from ls to ≡ true → AreMet v ls
    → v from ≤ℤ (v to +ℤ weight ls)
walk_bounds v [] from to walk met =
    let same : from ≡ to = eqb-true from to walk in
    rw same (omega (arith, ints))
walk_bounds v (l ∷ ls) from to walk met =
    let parts = and_parts (nat_eq l.x from) (is_walk l.y ls to) walk in
    let same : l.x ≡ from = eqb-true l.x from parts.0 in
    let rest : v l.y ≤ℤ (v to +ℤ weight ls) = walk_bounds v ls l.y to parts.1 met.1 in
    let first : v l.x ≤ℤ (v l.y +ℤ l.k) = met.0 in
    let first' : v from ≤ℤ (v l.y +ℤ l.k) = rw same at first in
    omega (arith, ints)

-- a closed walk is a walk from the first name of its first literal to that name
pub closed_walk_bounds : (v : ℕ → ℤ) (ls : List Lit) → is_closed_walk ls ≡ true → AreMet v ls → pos 0 ≤ℤ weight ls
closed_walk_bounds v [] closed met = absurd (false≢true closed)
closed_walk_bounds v (l ∷ ls) closed met =
    let rest : v l.y ≤ℤ (v l.x +ℤ weight ls) = walk_bounds v ls l.y l.x closed met.1 in
    let first : v l.x ≤ℤ (v l.y +ℤ l.k) = met.0 in
    omega (arith, ints)

-- literals that are no closed walk
pub open_verdict : (ls : List Lit) → is_closed_walk ls ≡ false → cycle_verdict ls ≡ Err NotACycle
open_verdict ls e = rw e

-- what a verdict of Ok says
pub parts_of_verdict : (ls : List Lit) → cycle_verdict ls ≡ Ok tt → (is_closed_walk ls ≡ true) × (weight ls <ℤ pos 0)
parts_of_verdict ls ok =
    elim (cases_Bool (is_closed_walk ls)) [
      | inl closed ↦
          elim (cases_Bool (int_lt (weight ls) (pos 0))) [
            | inl below ↦ (closed, int_lt-true (weight ls) (pos 0) below)
            | inr high ↦ absurd (let e : cycle_verdict ls ≡ Err NotNegative = rw (closed, high) in cc)
          ]
      | inr opened ↦ absurd (let e : cycle_verdict ls ≡ Err NotACycle = open_verdict ls opened in cc)
    ]

-- the other two verdicts on literals
pub high_verdict : (ls : List Lit) → is_closed_walk ls ≡ true → pos 0 ≤ℤ weight ls → cycle_verdict ls ≡ Err NotNegative
high_verdict ls e high = rw (e, int_lt-false (weight ls) (pos 0) high)

pub negative_verdict : (ls : List Lit) → is_closed_walk ls ≡ true → weight ls <ℤ pos 0 → cycle_verdict ls ≡ Ok tt
negative_verdict ls e low = rw (e, lt-int_lt (weight ls) (pos 0) low)

-- the verdict on picks is that on the literals which they name
pub pick_verdict-named_by :
    (lits : List Lit) (ns : List ℕ) → is_some (picked lits ns) ≡ true
    → pick_verdict lits ns ≡ cycle_verdict (named_by lits ns)
pick_verdict-named_by lits ns some = rw (picked_below lits ns (place_below lits ns some))

pub no_values_on_cycle : (v : ℕ → ℤ) (ls : List Lit) → cycle_verdict ls ≡ Ok tt → AreMet v ls → ⊥
no_values_on_cycle v ls ok met =
    let parts = parts_of_verdict ls ok in
    let least : pos 0 ≤ℤ weight ls = closed_walk_bounds v ls parts.0 met in
    let below : weight ls <ℤ pos 0 = parts.1 in
    absurd (omega (arith, ints))

-- met literals at a place, and at picked places
pub AreMet-at : (v : ℕ → ℤ) (lits : List Lit) (n : ℕ) → AreMet v lits → n < length lits → Meets v (literal_at lits n)
AreMet-at v [] n met inside = absurd (omega arith)
AreMet-at v (l ∷ ls) zero met inside = met.0
AreMet-at v (l ∷ ls) (suc n) met inside = AreMet-at v ls n met.1 (omega arith)

pub AreMet-named_by :
    (v : ℕ → ℤ) (lits : List Lit) (ns : List ℕ) → AreMet v lits
    → ((i : ℕ) → i < length ns → get_or ns i 0 < length lits)
    → AreMet v (named_by lits ns)
AreMet-named_by v lits [] met below = tt
AreMet-named_by v lits (n ∷ ns) met below = (
  AreMet-at v lits n met (below 0 (omega arith)),
  AreMet-named_by v lits ns met (λ i inside. below (suc i) (omega arith)),
)

-- where picks name a negative cycle, no valuation meets all the literals
pub no_values_on_picks : (v : ℕ → ℤ) (lits : List Lit) (ns : List ℕ) → pick_verdict lits ns ≡ Ok tt → AreMet v lits → ⊥
no_values_on_picks v lits ns ok met = by (picked lits ns) refl ok
  where
    by : (o : Option (List Lit)) → picked lits ns ≡ o → verdict_of_picked o ≡ Ok tt → ⊥
    by None e ok = absurd (grind arith)
    by (Some ls) e ok =
        let below : (i : ℕ) → i < length ns → get_or ns i 0 < length lits = place_below lits ns (ap is_some e) in
        let same : picked lits ns ≡ Some (named_by lits ns) = picked_below lits ns below in
        let those : named_by lits ns ≡ ls = cc in
        let met' : AreMet v (named_by lits ns) = AreMet-named_by v lits ns met below in
        no_values_on_cycle v ls ok (subst (λ (x : List Lit). AreMet v x) those met')

-- the weight of what is left, one pick on
pub weight-drop :
    (lits : List Lit) (ns : List ℕ) (i : ℕ) → i < length ns
    → weight (named_by lits (drop i ns))
    ≡ ((literal_at lits (get_or ns i 0)).k +ℤ weight (named_by lits (drop (i + 1) ns)))
weight-drop lits ns i inside = at_drop_more (λ rest. weight (named_by lits rest)) ns i 0 inside
