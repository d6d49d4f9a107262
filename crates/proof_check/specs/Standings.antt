-- What open places stand for, given the plans of the nodes.
use Rattle.std.specs.Prelude.{map}
use Rattle.proof_trees.specs.Starts.{MarkedPlan}
use Rattle.proof_trees.specs.Proofs.{Learned}
use Rattle.proof_trees.specs.Tokens.{Wanted}
use Rattle.proof_trees.specs.Tokens as plan
use Rattle.open_places.specs.declared.places.Known.{Known}
use Rattle.open_places.specs.Places.{WantedAt, Tree, Cycle, Learn, OpenProof}
use Rattle.proof_check.specs.Steps.{Standing}

-- what is wanted at a place
abbrev pub wanted_of : {N S W : Type 0} → (N → MarkedPlan S W) → WantedAt N → Wanted S W
wanted_of marked (Tree n w) = plan.Tree (marked n) w
wanted_of marked (Cycle w) = plan.Cycle w
wanted_of marked (Learn n ls) = plan.Learn (marked n) ls

abbrev pub learned_of : {N S W : Type 0} → (N → MarkedPlan S W) → Known N → Learned S W
learned_of marked k = record { plan = marked k.node; literals = k.literals }

abbrev pub standing_of : {N S W : Type 0} → (N → MarkedPlan S W) → OpenProof N → Standing S W
standing_of marked p = record { known = map (learned_of marked) p.known; wanted = map (wanted_of marked) p.wanted }
