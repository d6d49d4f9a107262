-- An asker's plans, seen as plans without starts.
use Rattle.std.specs.Prelude.{◌≡◌, None}
use Rattle.std.proofs.Common.{refl, sym}
use Rattle.ask_core.specs.Plans.{Plan}
use Rattle.ask_core.specs.Plans as plain
use Rattle.proof_trees.specs.Starts.{MarkedPlan, Ask, Holds, Fails, unmarked, IsMarkedBy}
use Rattle.proof_trees.specs.Starters.{Starts, IsWhole}

-- a plan without starts
abbrev pub startless : {S W : Type 0} → Plan W → MarkedPlan S W
startless (plain.Ask l on_yes on_no) = Ask None l (startless on_yes) (startless on_no)
startless plain.Holds = Holds None
startless (plain.Fails why) = Fails None why

-- the plans of an asker without starts. None compare, since there are none
abbrev pub no_starts : {N W : Type 0} → (N → Plan W) → Plan W → Starts N (Unit {0}) W
no_starts plan root =
    record {
      marked = λ n. startless (plan n);
      root = startless root;
      compare = λ s here. None;
      meaning = λ s. plain.Holds;
    }

pub unmarked-startless : {W : Type 0} (S : Type 0) (p : Plan W) → unmarked (startless {S = S} p) ≡ p
unmarked-startless S (plain.Ask l on_yes on_no) = rw (unmarked-startless S on_yes, unmarked-startless S on_no) refl
unmarked-startless S plain.Holds = refl
unmarked-startless S (plain.Fails why) = refl

pub IsMarkedBy-startless : {S W : Type 0} (meaning : S → Plan W) (p : Plan W) → IsMarkedBy meaning (startless p)
IsMarkedBy-startless meaning (plain.Ask l on_yes on_no) =
    (tt, IsMarkedBy-startless meaning on_yes, IsMarkedBy-startless meaning on_no)
IsMarkedBy-startless meaning plain.Holds = tt
IsMarkedBy-startless meaning (plain.Fails why) = tt

pub IsWhole-no_starts : {N W : Type 0} (plan : N → Plan W) (root : Plan W) → IsWhole root (no_starts plan root)
IsWhole-no_starts plan root = record {
  same = sym (unmarked-startless (Unit {0}) root);
  marked = IsMarkedBy-startless (λ s. plain.Holds) root;
  lawful = λ s here es v none. absurd (cc);
}
