use Rattle.std.proofs.Common.{ℕ, ◌+◌, ◌≤◌, List, ◌++◌, length}
use Rattle.ot_sections.specs.Feeding.{IsKeptFeed, Whole, Yields}
use Rattle.ot_bound.specs.Headers.{IsFrontOfHeader}
use Rattle.ot_bound.proofs.leading.read_low_header.Given as goal

-- the bytes that the feed had are those that came, a proper front of a line, and then those that it may still give
abbrev pub invariant-loop-line : goal.invariant-loop-line
invariant-loop-line g l = record {
  front : IsFrontOfHeader l.line.items;
  bytes :
      (all : Whole) (rest : List ℕ) → Yields g.F.Feed l.feed all rest
      → Yields g.F.Feed l.fn.feed all (l.line.items ++ rest);
  fewer : g.F.Feed.bound l.feed + length l.line.items ≤ g.F.Feed.bound l.fn.feed;
  kept : IsKeptFeed g.F.Feed.faults g.F.Feed.bound g.F.Feed.held g.F.Feed.keeps l.fn.feed l.feed;
}

abbrev pub decreases-loop-line : goal.decreases-loop-line
decreases-loop-line g l = g.F.Feed.bound l.feed
