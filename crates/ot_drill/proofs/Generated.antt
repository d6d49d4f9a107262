-- Workloads of small numbers keep the limits of functions, and no event of theirs is refused: by tests that compute.
use Rattle.std.proofs.Common.{◌≡◌, ◌≤◌, ℕ, true, refl, arith}
use Rattle.ot_model.specs.declared.op.Mode.TheVariants.{Tomb}
use Rattle.fn_rules.specs.Building.{has_own_blocks, is_buildable}
use Rattle.fn_rules.specs.Validity.{is_valid}
use Rattle.fn_rules.specs.Shipped.{by_sites}
use Rattle.ot_drill.specs.FineEvents.{are_fine, none_made}
use Rattle.ot_drill.specs.Events.{drill_events}
use Rattle.ot_drill.specs.Workload.{drill_blocks, drill_function}
use Rattle.std.proofs.lemmas.Bool.{and_parts}
use Rattle.ot_drill.proofs.Tested.{passes}

-- the blocks make a function
pub blocks_are_buildable : (n : ℕ) → n ≤ 16 → is_buildable (by_sites Tomb) (drill_blocks n) ≡ true
blocks_are_buildable n few = passes (λ k. is_buildable (by_sites Tomb) (drill_blocks k)) 17 n refl (omega arith)

-- which keeps the limits
pub functions_are_valid : (n : ℕ) → n ≤ 16 → is_valid (drill_function n) ≡ true
functions_are_valid n few =
    (and_parts (has_own_blocks (by_sites Tomb) (drill_blocks n)) (is_valid (drill_function n))
    (blocks_are_buildable n few)).1

-- no event is refused
pub events_are_fine : (n : ℕ) → n ≤ 16 → are_fine none_made (drill_events n) ≡ true
events_are_fine n few = passes (λ k. are_fine none_made (drill_events k)) 17 n refl (omega arith)
