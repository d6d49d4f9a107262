-- What lemmas and trees mean: valuations that lead to `Holds`.
use Rattle.std.specs.Prelude.{◌≡◌, ℕ, ℤ, true, List}
use Rattle.std.specs.List.{AllByRecursion}
use Rattle.diff_graph.specs.declared.lit.Lit.{Lit}
use Rattle.diff_graph.specs.Literals.{AreMet}
use Rattle.ask_core.specs.Plans.{Plan, value}
use Rattle.proof_trees.specs.Starts.{start_of, unmarked, StartStandsFor}
use Rattle.proof_trees.specs.Proofs.{Learned}

-- each valuation that meets the literals leads through the plan to `Holds`
abbrev pub HoldsUnder : {W : Type 0} → List Lit → Plan W → Type 0
HoldsUnder ls p = (v : ℕ → ℤ) → AreMet v ls → value p v ≡ true

-- the lemmas are true, and their plans are what their starts stand for
abbrev pub AreTrue : {S W : Type 0} → (S → Plan W) → List (Learned S W) → Type 0
AreTrue meaning known =
    AllByRecursion
    (λ lemma.
    StartStandsFor meaning (start_of lemma.plan) (unmarked lemma.plan)
    × HoldsUnder lemma.literals (unmarked lemma.plan))
    known
