use Rattle.ot_sections.specs.Feeding.{fed}
use Rattle.ot_sections.proofs.Coming.{ReadsAt}
use Rattle.ot_sections.proofs.Leaving.{GoesOn}
use Rattle.ot_sections.proofs.part.next_part.Given as goal

-- the bytes that the feed had are those that came of the part, and then those that it may still give
abbrev pub invariant-loop-reader : goal.invariant-loop-reader
invariant-loop-reader g l = record {
  reads : ReadsAt g.F.Feed (fed l.fn.reader l.fn.feed) (fed l.reader l.feed);
  leaves : GoesOn g.F.Feed (fed l.fn.reader l.fn.feed) (fed l.reader l.feed);
}

abbrev pub decreases-loop-reader : goal.decreases-loop-reader
decreases-loop-reader g l = g.F.Feed.bound l.feed
