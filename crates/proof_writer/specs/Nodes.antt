-- Which nodes are still to be written.
use Rattle.std.specs.Prelude.{◌≡◌, ◌⊎◌, List, [], ◌∷◌, Option, Some, None}
use Rattle.proof_writer.specs.declared.place.TreePlace.{TreePlace}
use Rattle.proof_writer.specs.declared.place.WriterTask.{WriterTask}
use Rattle.proof_writer.specs.declared.place.WriterTask.TheVariants.{Part, Cycle, Learn}
use Rattle.proof_writer.specs.declared.walk.PlanWalk.{PlanWalk}

-- the node is that of the present place
abbrev pub IsPresent : {N : Type 0} → N → Option (TreePlace N) → Type 0
IsPresent n None = ⊥
IsPresent n (Some p) = p.node ≡ n

-- a place of the node waits
abbrev pub Waits : {N : Type 0} → N → List (WriterTask N) → Type 0
Waits n [] = ⊥
Waits n (Part p ∷ parts) = (p.node ≡ n) ⊎ Waits n parts
Waits n (Cycle count ∷ parts) = Waits n parts
Waits n (Learn place ∷ parts) = Waits n parts

-- a place of the node is the present one, or waits
abbrev pub HasNode : {N : Type 0} → N → PlanWalk N → Type 0
HasNode n w = IsPresent n w.present ⊎ Waits n w.waiting.items

-- the nodes are the asker's own
abbrev pub AreOwnNodes : {N : Type 0} → (N → Type 0) → PlanWalk N → Type 0
AreOwnNodes {N = N} is_own w = (n : N) → HasNode n w → is_own n

-- no nodes but those of before
abbrev pub HasNoOthers : {N : Type 0} → PlanWalk N → PlanWalk N → Type 0
HasNoOthers {N = N} old new = (n : N) → HasNode n new → HasNode n old

-- but for one
abbrev pub HasOneMore : {N : Type 0} → N → PlanWalk N → PlanWalk N → Type 0
HasOneMore {N = N} one old new = (n : N) → HasNode n new → (one ≡ n) ⊎ HasNode n old

-- but for the parts of a question
abbrev pub AddsOnlyParts : {N : Type 0} → N → N → PlanWalk N → PlanWalk N → Type 0
AddsOnlyParts {N = N} on_yes on_no old new = (n : N) → HasNode n new → (on_yes ≡ n) ⊎ ((on_no ≡ n) ⊎ HasNode n old)
