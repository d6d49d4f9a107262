-- The calls and the faults of an object in memory.
use Rattle.std.specs.Prelude.{Bool, nat_eq}
use Rattle.std.specs.List.{list_any}
use Rattle.ot_outside.specs.declared.counts.Counts.{Counts}
use Rattle.ot_outside.specs.Faults.{next_count}

-- the number of the next call stands in the list of those that fail
abbrev pub next_is_listed : Counts → Bool
next_is_listed c = list_any (λ listed. nat_eq listed (next_count c.calls)) c.failing.items
