use Rattle.std.proofs.Common.{arith, sym, ◌∙◌}
use Rattle.ot_ways.proofs.SamePlaces.{difference_past, difference_ended}
use Rattle.ot_ways.proofs.differences.difference_of.Goals as goal

-- the right one has ended
pub returns-in-None : goal.returns-in-None
returns-in-None c =
    sym (difference_past c.args.left.now c.args.right.now c.loop-place.place c.loop-place-test.true
    c.in-None.ensures.lookup.3)
    ∙ c.loop-place.invariant

-- the left one has ended
pub returns-then-left-right : goal.returns-then-left-right
returns-then-left-right c =
    difference_ended c.args.left.now c.args.right.now c.loop-place.place (omega arith) (omega arith)
    ∙ c.loop-place.invariant
