-- Parts that wait for a cycle.
use Rattle.std.specs.Prelude.{ℕ, ⊤, List, [], ◌∷◌, ◌++◌, zero, suc, take, drop}
use Rattle.diff_graph.specs.declared.lit.Lit.{Lit}
use Rattle.diff_graph.specs.Literals.{negated}
use Rattle.open_places.specs.declared.places.At.TheVariants as at
use Rattle.open_places.specs.declared.places.WaitingPlace.{WaitingPlace}
use Rattle.open_places.specs.declared.places.WaitingPlace.TheVariants as waiting
use Rattle.open_places.specs.Places.{WantedAt, Tree, Cycle, Learn, OpenProof}

abbrev pub cycle_part : {N : Type 0} → ℕ → Lit → WaitingPlace N
cycle_part depth l = waiting.Place at.Cycle depth (negated l)

-- so many places are wanted first, and each is that of a cycle
abbrev pub AreCycles : {N : Type 0} → ℕ → List (WantedAt N) → Type 0
AreCycles zero wanted = ⊤
AreCycles (suc count) [] = ⊥
AreCycles (suc count) (Tree n w ∷ wanted) = ⊥
AreCycles (suc count) (Cycle w ∷ wanted) = AreCycles count wanted
AreCycles (suc count) (Learn n ls ∷ wanted) = ⊥

-- so many places behind the first one are not wanted any more
abbrev pub without_cycles : {N : Type 0} → ℕ → OpenProof N → OpenProof N
without_cycles count p =
    record { known = p.known; wanted = take 1 p.wanted ++ drop count (drop 1 p.wanted) }
