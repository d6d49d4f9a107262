-- The places in the plan of a premised asker.
use Rattle.std.specs.Prelude.{ℕ}
use Rattle.std.proofs.Common.{lit≤, refl}
use Rattle.diff_graph.specs.declared.lit.Lit.{Lit}
use Rattle.ask_core.specs.declared.premised.PremisedNode.{PremisedNode}
use Rattle.ask_core.specs.declared.premised.PremisedNode.TheVariants.{Premise, Within, Unmet}
use Rattle.ask_core.specs.Plans.{Plan, Holds, premised}
use Rattle.ask_core.specs.Askers.{IsFine}

-- a place within is one of the inner asker's own
abbrev pub IsOwnAfter : {N : Type 0} → (N → Type 0) → PremisedNode N → Type 0
IsOwnAfter is_own Premise = Unit {0}
IsOwnAfter is_own (Within n) = is_own n
IsOwnAfter is_own Unmet = Unit {0}

-- what a place stands for, given the premise, the inner asker's own plan and what its nodes stand for
abbrev pub plan_after : {N W : Type 0} → Lit → Plan W → (N → Plan W) → PremisedNode N → Plan W
plan_after l root plan Premise = premised l root
plan_after l root plan (Within n) = plan n
plan_after l root plan Unmet = Holds

-- an end that holds keeps the limits
pub IsFine-holds : {W : Type 0} (count : ℕ) → IsFine {W = W} count Holds
IsFine-holds count = record { literals = refl; paths = lit≤ tt }
