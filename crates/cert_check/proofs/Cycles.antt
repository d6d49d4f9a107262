-- Cycles that are judged in one pass.
use Rattle.std.proofs.Common.{◌≡◌, ℕ, ℤ, pos, ◌+ℤ◌, ◌<ℤ◌, true, int_lt, List, [], ◌∷◌, Some, slice_get, Ok, arith, refl}
use Rattle.std.proofs.lemmas.Int.{ints}
use Rattle.std.proofs.lemmas.Bool.{eq-eqb}
use Rattle.diff_graph.specs.declared.lit.Lit.{Lit}
use Rattle.diff_graph.specs.Cycles.{pick_verdict, weight}
use Rattle.cert_check.specs.Walks.{Closes}

-- none is still to come
pub closes_there : (lits : List Lit) (name to : ℕ) (sum : ℤ) → name ≡ to → sum <ℤ pos 0 → Closes lits name to sum []
closes_there lits name to sum same low = record {
  lits_of = [];
  named = refl;
  walk = eq-eqb name to same;
  negative = grind (arith, ints);
}

-- one more before them
pub closes_before :
    (lits : List Lit) (name to n : ℕ) (sum next : ℤ) (ns : List ℕ) (l : Lit) → slice_get lits n ≡ Some l → l.x ≡ name
    → next ≡ sum +ℤ l.k → Closes lits l.y to next ns → Closes lits name to sum (n ∷ ns)
closes_before lits name to n sum next ns l at same sum_is rest = record {
  lits_of = l ∷ rest.lits_of;
  named = rw (at, rest.named);
  walk = rw (eq-eqb l.x name same) rest.walk;
  negative = grind (arith, ints, rest.negative, sum_is);
}

-- the first one of all
pub closes_all :
    (lits : List Lit) (n : ℕ) (ns : List ℕ) (l : Lit) (sum : ℤ) → slice_get lits n ≡ Some l → sum ≡ l.k
    → Closes lits l.y l.x sum ns → pick_verdict lits (n ∷ ns) ≡ Ok tt
closes_all lits n ns l sum at sum_is rest =
    let low : int_lt (l.k +ℤ weight rest.lits_of) (pos 0) ≡ true = grind (arith, ints, rest.negative, sum_is) in
    rw (at, rest.named, rest.walk, low)
