use Rattle.std.proofs.Common.{length, ◌-◌, ◌+◌, ◌≡◌, ◌≤◌, ◌↔◌, ℕ, List}
use Rattle.std.specs.Io.KnownBytes.{prepend_known}
use Rattle.ot_outside.specs.Reads.{after_reading}
use Rattle.ot_outside.proofs.whole.read_all.Given as goal

-- the file is what was got, and then what is left of it
abbrev pub invariant-turns : goal.invariant-turns
invariant-turns g l = record {
  within : length l.into.items ≤ l.limit;
  split : g.H.Shelf.holds l.fn.shelf l.name ≡ prepend_known l.into.items (g.H.Shelf.left l.shelf);
  holds : (n : List ℕ) → g.H.Shelf.holds l.shelf n ≡ g.H.Shelf.holds l.fn.shelf n;
  offered : (n : List ℕ) → g.H.Shelf.offered l.fn.shelf n ↔ g.H.Shelf.offered l.shelf n;
  faults : g.H.Shelf.faults l.fn.shelf ≤ g.H.Shelf.faults l.shelf;
  read : g.H.Shelf.reads l.shelf ≡ after_reading l.name l.into.items (g.H.Shelf.reads l.fn.shelf);
  called : g.H.Shelf.calls l.shelf ≤ g.H.Shelf.calls l.fn.shelf + 1 + length l.into.items;
}

abbrev pub decreases-turns : goal.decreases-turns
decreases-turns g l = l.limit - length l.into.items
