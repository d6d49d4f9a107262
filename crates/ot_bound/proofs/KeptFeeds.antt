-- A feed that is kept twice is kept.
use Rattle.std.proofs.Common.{ℕ, ◌≤◌, Option, arith, ◌∙◌}
use Rattle.ot_outside.specs.Faults.{Rose}
use Rattle.ot_sections.specs.Feeding.{IsKeptFeed}

pub kept_on :
    {F : Type 0} {faults bound : F → ℕ} {held : F → Option ℕ} {keeps : F → F → Type 0} {old between new : F}
    → IsKeptFeed faults bound held keeps old between → IsKeptFeed faults bound held keeps between new
    → IsKeptFeed faults bound held keeps old new
kept_on one other = record {
  more_faults = omega (arith, one.more_faults, other.more_faults);
  no_more_bytes = omega (arith, one.no_more_bytes, other.no_more_bytes);
  same_object = other.same_object ∙ one.same_object;
  still_keeps = λ before h. other.still_keeps before (one.still_keeps before h);
}

-- a count that does not fall, and then rises, rises
pub rose_behind : {old between new : ℕ} → old ≤ between → Rose between new → Rose old new
rose_behind more rose = omega arith
