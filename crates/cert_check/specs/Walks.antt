-- Walks along literals that picks name one after another.
use Rattle.std.specs.Prelude.{◌≡◌, ℕ, ℤ, pos, ◌+ℤ◌, ◌<ℤ◌, true, List, ◌++◌, Some, Ok}
use Rattle.diff_graph.specs.declared.lit.Lit.{Lit}
use Rattle.diff_graph.specs.Cycles.{is_walk, picked, pick_verdict, weight}
use Rattle.cert_check.specs.declared.cycle.Walk.{Walk}

-- picks lead from a name to another one, and bring a sum below 0
pub record Closes (lits : List Lit) (name to : ℕ) (sum : ℤ) (picks : List ℕ) : Type 0 where
  pub lits_of : List Lit
  pub named : picked lits picks ≡ Some lits_of
  pub walk : is_walk name lits_of to ≡ true
  pub negative : (sum +ℤ weight lits_of) <ℤ pos 0

-- picks named the literals of a walk: further ones that close it make all of them a negative cycle
abbrev pub IsWalkOf : List Lit → List ℕ → Walk → Type 0
IsWalkOf lits picks w = (more : List ℕ) → Closes lits w.name w.start w.sum more
    → pick_verdict lits (picks ++ more) ≡ Ok tt
