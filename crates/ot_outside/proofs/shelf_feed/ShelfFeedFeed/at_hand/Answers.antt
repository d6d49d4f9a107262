use Rattle.std.proofs.Common.{◌≤◌, ◌-◌, length, arith}
use Rattle.ot_outside.proofs.Pieces.{front_of_hand, hand_is_all, hand_is_front}
use Rattle.ot_outside.proofs.shelf_feed.ShelfFeedFeed.at_hand.Goals as goal

pub returns-then-self-bytes-clause-front : goal.returns-then-self-bytes-clause-front
returns-then-self-bytes-clause-front g c =
    let ordered : c.args.self.now.at ≤ c.args.self.now.filled = c.args.self.now.ordered in
    front_of_hand c.args.self.now.room _ _ (g.H.Shelf.left c.args.self.now.shelf.now)
    (hand_is_front c.args.self.now.room c.args.self.now.at c.args.self.now.filled c.args.self.now.piece ordered)

pub returns-else-self-bytes-clause-hand : goal.returns-else-self-bytes-clause-hand
returns-else-self-bytes-clause-hand g c =
    let ordered : c.args.self.now.at ≤ c.args.self.now.filled = c.args.self.now.ordered in
    let within : c.args.self.now.filled ≤ length c.args.self.now.piece = c.args.self.now.within in
    let below : c.args.self.now.filled - c.args.self.now.at ≤ c.args.self.now.room =
    omega (arith, c.if-self-bytes.false) in
    hand_is_all c.args.self.now.room c.args.self.now.at c.args.self.now.filled
    c.args.self.now.piece ordered within below

pub returns-else-self-bytes-clause-front : goal.returns-else-self-bytes-clause-front
returns-else-self-bytes-clause-front g c =
    front_of_hand c.args.self.now.room _ _ (g.H.Shelf.left c.args.self.now.shelf.now)
    (returns-else-self-bytes-clause-hand g c)
