use Rattle.ot_bound.proofs.FirstBytes.{IsAsked, given_first, over_there, spent_there}
use Rattle.ot_bound.proofs.leading.next_byte.Goals as goal

pub returns-then-not-branch-clause-over : goal.returns-then-not-branch-clause-over
returns-then-not-branch-clause-over g c =
    let same : IsAsked g.F.Feed c.args.feed.now c.more.new.self =
    record { left = c.more.ensures.left; bound = c.more.ensures.bound; gave = c.more.ensures.gave } in
    over_there g.F.Feed c.args.feed.now c.more.new.self same
    (spent_there g.F.Feed c.args.feed.now c.more.new.self same (c.in_ok-more.ensures.end c.if-not-branch.true)
    (c.in_ok-more.ensures.none c.if-not-branch.true))

-- the first byte at hand was given
pub returns-clause-byte : goal.returns-clause-byte
returns-clause-byte g c =
    let same : IsAsked g.F.Feed c.args.feed.now c.more.new.self =
    record { left = c.more.ensures.left; bound = c.more.ensures.bound; gave = c.more.ensures.gave } in
    let piece = c.at_hand.result.now in
    given_first g.F.Feed c.args.feed.now c.more.new.self c.consume.new.self piece
    (rw c.at_hand.ensures.hand (c.in_ok-more.ensures.there c.if-not-branch.false)) same
    (record {
      left = rw c.at_hand.ensures.hand c.consume.ensures.left;
      bound = c.consume.ensures.bound;
      gave = rw c.at_hand.ensures.hand c.consume.ensures.gave;
    })
