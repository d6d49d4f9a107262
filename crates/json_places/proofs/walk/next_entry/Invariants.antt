use Rattle.std.proofs.Common.{◌≡◌, ◌≤◌, drop}
use Rattle.json_places.specs.Spots.{depth_of}
use Rattle.json_places.specs.Values.{entries_behind, next_entries}
use Rattle.json_places.proofs.walk.next_entry.Given as goal

-- no entry begins in what was passed; each byte opens one bracket at most
abbrev pub invariant-loop-index : goal.invariant-loop-index
invariant-loop-index l = record {
  same : entries_behind l.spot (drop l.index l.entry) ≡ next_entries l.entry;
  depth : depth_of l.spot ≤ l.index;
}
