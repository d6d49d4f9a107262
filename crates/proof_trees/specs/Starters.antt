-- What an asker says of its starts.
use Rattle.std.specs.Prelude.{◌≡◌, ◌↔◌, ◌+◌, ◌^◌, ◌<◌, ◌≤◌, ℕ, Result, Ok, Err}
use Rattle.ask_core.specs.declared.turn.Turn.{Turn}
use Rattle.ask_core.specs.declared.turn.Turn.TheVariants as turn
use Rattle.ask_core.specs.Plans.{Plan}
use Rattle.proof_trees.specs.Starts.{MarkedPlan, Ask, Holds, Fails, start_of, unmarked, Comparison, IsMarkedBy}
use Rattle.proof_trees.specs.Starts.{IsLawful}

-- the plan of each node with its starts, the asker's own one, how starts compare, and the plan that a start stands for
pub record Starts (N S W : Type 0) : Type 0 where
  pub marked : N → MarkedPlan S W
  pub root : MarkedPlan S W
  pub compare : Comparison S
  pub meaning : S → Plan W

-- the plan begins as the turn says, and its parts are the plans of the turn's nodes, which are the asker's own
abbrev pub BeginsAt : {N S W : Type 0} → (N → Type 0) → (N → MarkedPlan S W) → Turn N W → MarkedPlan S W → Type 0
BeginsAt is_own marked (turn.Ask lit on_yes on_no) p =
    is_own on_yes × is_own on_no × (p ≡ Ask (start_of p) lit (marked on_yes) (marked on_no))
BeginsAt is_own marked turn.Holds p = p ≡ Holds (start_of p)
BeginsAt is_own marked (turn.Fails why) p = p ≡ Fails (start_of p) why

-- own nodes stay own and keep their plans and starts; so do the asker's own plan, the comparison, and what the
-- starts stand for
pub record KeepsStarts {N S W : Type 0} (was_own is_own : N → Type 0) (old new : Starts N S W) : Type 0 where
  pub own : (n : N) → was_own n ↔ is_own n
  pub plans : (n : N) → was_own n → new.marked n ≡ old.marked n
  pub root : new.root ≡ old.root
  pub compare : new.compare ≡ old.compare
  pub meaning : new.meaning ≡ old.meaning

-- a count of 64 bits rose by so many, as far as it goes
abbrev pub HasCounted : ℕ → ℕ → ℕ → Type 0
HasCounted before more now = (now ≤ before + more) × (before + more < 2 ^ 64 → now ≡ before + more)

-- how many questions a turn tells
abbrev pub questions_in : {N W E : Type 0} → Result (Turn N W) E → ℕ
questions_in (Ok (turn.Ask lit on_yes on_no)) = 1
questions_in (Ok turn.Holds) = 0
questions_in (Ok (turn.Fails why)) = 0
questions_in (Err e) = 0

-- the asker's own plan is the one with its starts, and each start there stands for the plan that is there
pub record IsWhole {N S W : Type 0} (root : Plan W) (starts : Starts N S W) : Type 0 where
  pub same : root ≡ unmarked starts.root
  pub marked : IsMarkedBy starts.meaning starts.root
  pub lawful : IsLawful starts.compare starts.meaning
