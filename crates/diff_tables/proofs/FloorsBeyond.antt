-- Floors of names that no literal speaks of.
use Rattle.std.proofs.Common.{◌≡◌, ℕ, ◌+◌, ◌-◌, ◌<◌, ◌≤◌, ℤ, pos, ◌+ℤ◌, ◌≤ℤ◌, List, [], ◌∷◌, ◌++◌, length, take, drop}
use Rattle.std.proofs.Common.{get_or, arith, sym, ap, ◌∙◌, subst, inl, inr}
use Rattle.std.proofs.lemmas.Int.{ints}
use Rattle.std.proofs.lemmas.Bool.{cases_lt}
use Rattle.std.proofs.lemmas.List.{take_more, length-take-le, length-append, length-drop, get_or-take, get_or-drop}
use Rattle.std.proofs.lemmas.List.{get_or_append_left, get_or-append_right}
use Rattle.diff_graph.specs.declared.lit.Lit.{Lit}
use Rattle.diff_graph.specs.Literals.{AreMet}
use Rattle.diff_graph.specs.Cycles.{literal_at}
use Rattle.diff_graph.specs.Limits.{IsNamed, AreNamed}
use Rattle.diff_tables.specs.Solutions.{valuation_of, MeetsFloors, AreLeast}
use Rattle.diff_tables.proofs.AddingSteps.{AreNamed-wider, All-append}

-- one more literal is named
pub AreNamed-more :
    (n m : ℕ) (ls : List Lit) (place : ℕ) → place < length ls → n ≤ m → AreNamed n (take place ls)
    → IsNamed m (literal_at ls place)
    → AreNamed m (take (place + 1) ls)
AreNamed-more n m ls place inside wider named last =
    subst (λ (xs : List Lit). AreNamed m xs) (sym (take_more ls place (record { x = 0; y = 0; k = pos 0 }) inside))
    (All-append (λ l. IsNamed m l) (take place ls) (literal_at ls place ∷ [])
    (AreNamed-wider n m (take place ls) wider named) (last, tt))

-- valuations that agree on the names of the literals meet the same
AreMet-agreeing : (n : ℕ) (v w : ℕ → ℤ) (ls : List Lit) → AreNamed n ls → ((x : ℕ) → x < n → v x ≡ w x)
    → AreMet v ls → AreMet w ls
AreMet-agreeing n v w [] named agree met = tt
AreMet-agreeing n v w (l ∷ ls) named agree met =
    let first : v l.x ≡ w l.x = agree l.x named.0.0 in
    let second : v l.y ≡ w l.y = agree l.y named.0.1 in
    let here : v l.x ≤ℤ (v l.y +ℤ l.k) = met.0 in
    (omega (arith, ints), AreMet-agreeing n v w ls named.1 agree met.1)

-- what meets the floors meets the first of them
pub MeetsFloors-first : (n : ℕ) (floors : List ℤ) (v : ℕ → ℤ) → n ≤ length floors → MeetsFloors floors v
    → MeetsFloors (take n floors) v
MeetsFloors-first n floors v fits above x inside =
    let len : length (take n floors) ≡ n = length-take-le n floors fits in
    let below : x < n = omega arith in
    let same : get_or (take n floors) x (pos 0) ≡ get_or floors x (pos 0) = get_or-take n floors x (pos 0) below in
    let here : get_or floors x (pos 0) ≤ℤ v x = above x (omega arith) in
    omega (arith, ints)

-- least values above the first floors, with the other floors behind them, where no literal speaks of
-- the other names
pub AreLeast-with_floors :
    (ls : List Lit) (floors values : List ℤ) (n : ℕ) → 0 < n → n ≤ length floors → AreNamed n ls
    → AreLeast ls (take n floors) values
    → AreLeast ls floors (values ++ drop n floors)
AreLeast-with_floors ls floors values n some fits named first = record {
  len =
      (let behind : length (drop n floors) ≡ length floors - n = length-drop n floors in
      let whole : length (values ++ drop n floors) ≡ length values + length (drop n floors) =
      length-append values (drop n floors) in
      omega (arith, len));
  zero_first = value_below 0 some ∙ first.zero_first;
  met =
      AreMet-agreeing n (valuation_of values) (valuation_of (values ++ drop n floors)) ls named
      (λ x below. sym (value_below x below)) first.met;
  above = λ x inside.
      elim (cases_lt x n) [
        | inl below ↦
            (let here : get_or (take n floors) x (pos 0) ≤ℤ get_or values x (pos 0) =
            first.above x (omega (arith, short)) in
            let floor : get_or (take n floors) x (pos 0) ≡ get_or floors x (pos 0) =
            get_or-take n floors x (pos 0) below in
            let value : get_or (values ++ drop n floors) x (pos 0) ≡ get_or values x (pos 0) = value_below x below in
            omega (arith, ints))
        | inr past ↦
            (let value : get_or (values ++ drop n floors) x (pos 0)
            ≡ get_or floors x (pos 0) = value_from x past in omega (arith, ints))
      ];
  least = λ v at_zero met above x inside.
      elim (cases_lt x n) [
        | inl below ↦
            (let here : get_or values x (pos 0) ≤ℤ v x =
            first.least v at_zero met (MeetsFloors-first n floors v fits above) x (omega (arith, short)) in
            let value : get_or (values ++ drop n floors) x (pos 0) ≡ get_or values x (pos 0) = value_below x below in
            omega (arith, ints))
        | inr past ↦
            (let here : get_or floors x (pos 0) ≤ℤ v x = above x inside in
            let value : get_or (values ++ drop n floors) x (pos 0) ≡ get_or floors x (pos 0) = value_from x past in
            omega (arith, ints))
      ];
}
  where
    short : length (take n floors) ≡ n
    short = length-take-le n floors fits

    len : length values ≡ n
    len = first.len ∙ length-take-le n floors fits

    value_below : (x : ℕ) → x < n → get_or (values ++ drop n floors) x (pos 0) ≡ get_or values x (pos 0)
    value_below x below = get_or_append_left values (drop n floors) (pos 0) x (omega (arith, len))

    value_from : (x : ℕ) → n ≤ x → get_or (values ++ drop n floors) x (pos 0) ≡ get_or floors x (pos 0)
    value_from x past =
        let e : n + (x - n) ≡ x = omega arith in
        get_or-append_right values (drop n floors) n x (pos 0) len past
        ∙ get_or-drop n floors (x - n) (pos 0)
        ∙ ap (λ y. get_or floors y (pos 0)) e
