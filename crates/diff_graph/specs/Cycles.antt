-- Walks along literals, and the cycles that show that no integers meet them. That difference
-- constraints have no solution exactly where their graph has a negative cycle is textbook knowledge.
use Rattle.std.specs.Prelude.{ℕ, ℤ, pos, ◌+ℤ◌, Bool, false, ◌&&◌, if◌then◌else◌, nat_eq, int_lt, List, [], ◌∷◌, Option}
use Rattle.std.specs.Prelude.{Some, None, Result, Ok, Err, slice_get, slice_index_or, map}
use Rattle.std.specs.Option.{option_and_then}
use Rattle.diff_graph.specs.declared.lit.Lit.{Lit}
use Rattle.diff_graph.specs.declared.lit.PickError.{PickError}
use Rattle.diff_graph.specs.declared.lit.PickError.TheVariants.{BadPick, NotACycle, NotNegative}

-- the literals lead from one name to another: each begins where the one before it ends
abbrev pub is_walk : ℕ → List Lit → ℕ → Bool
is_walk from [] to = nat_eq from to
is_walk from (l ∷ ls) to = nat_eq l.x from && is_walk l.y ls to

-- there is at least one literal, and the last ends where the first begins
abbrev pub is_closed_walk : List Lit → Bool
is_closed_walk [] = false
is_closed_walk (l ∷ ls) = is_walk l.y ls l.x

-- the sum of the offsets
abbrev pub weight : List Lit → ℤ
weight [] = pos 0
weight (l ∷ ls) = l.k +ℤ weight ls

-- the literals that the picks name, in their order, or none where a pick names no literal
abbrev pub picked : List Lit → List ℕ → Option (List Lit)
picked lits [] = Some []
picked lits (n ∷ ns) =
    option_and_then (λ l. option_and_then (λ ls. Some (l ∷ ls)) (picked lits ns)) (slice_get lits n)

-- the literal at a place, or `0 <= 0` past the end
abbrev pub literal_at : List Lit → ℕ → Lit
literal_at lits n = slice_index_or lits n (record { x = 0; y = 0; k = pos 0 })

-- the same as `picked` where each pick names a literal
abbrev pub named_by : List Lit → List ℕ → List Lit
named_by lits ns = map (literal_at lits) ns

-- whether literals are a negative cycle, and if not, why not
abbrev pub cycle_verdict : List Lit → Result (Unit {0}) PickError
cycle_verdict ls =
    if is_closed_walk ls then (if int_lt (weight ls) (pos 0) then Ok tt else Err NotNegative)
    else Err NotACycle

-- whether picks name a negative cycle of the list, and if not, why not
abbrev pub verdict_of_picked : Option (List Lit) → Result (Unit {0}) PickError
verdict_of_picked None = Err BadPick
verdict_of_picked (Some ls) = cycle_verdict ls

abbrev pub pick_verdict : List Lit → List ℕ → Result (Unit {0}) PickError
pick_verdict lits picks = verdict_of_picked (picked lits picks)
