use Rattle.std.proofs.Common.{◌≡◌, ◌+◌, ◌-◌, ◌++◌, take, drop, ap, sym, arith}
use Rattle.ot_outside.specs.Reads.{Reads}
use Rattle.ot_outside.specs.ShelfFeed.{shelf_of, unread_of}
use Rattle.ot_outside.proofs.Keeping.{kept_on, same_reading, unchanged_shelf}
use Rattle.ot_outside.proofs.Pieces.{beyond_taken, hand_behind, hand_taken, limit_taken, read_taken, slice_of_hand}
use Rattle.ot_outside.proofs.shelf_feed.ShelfFeedFeed.consume.Goals as goal

pub returns-clause-hand : goal.returns-clause-hand
returns-clause-hand g c =
    hand_behind c.args.self.now.room c.args.count c.args.self.now.at c.args.self.now.filled
    c.args.self.now.piece c.requires

pub returns-clause-left : goal.returns-clause-left
returns-clause-left g c =
    hand_taken c.args.self.now.room c.args.count c.args.self.now.at c.args.self.now.filled c.args.self.now.piece
    (g.H.Shelf.left c.args.self.now.shelf.now) c.requires

-- what was noted is the part of the piece that was at hand
pub returns-clause-gave : goal.returns-clause-gave
returns-clause-gave g c =
    let noted : c.note.new.self.bytes ≡ c.replace-given.result.bytes
    ++ take ((c.args.self.now.at + c.args.count) - c.args.self.now.at) (drop c.args.self.now.at c.args.self.now.piece) =
    ap (λ (r : Reads). r.bytes) c.note.ensures in
    let was : c.replace-given.result.bytes ≡ c.args.self.now.given.bytes = cc in
    let span : (c.args.self.now.at + c.args.count) - c.args.self.now.at ≡ c.args.count = omega arith in
    rw (noted, was, span)
    (ap (λ l. c.args.self.now.given.bytes ++ l)
    (sym (slice_of_hand c.args.self.now.room c.args.count c.args.self.now.at c.args.self.now.filled
    c.args.self.now.piece c.args.self.now.ordered c.args.self.now.within c.requires)))

pub returns-clause-keeps : goal.returns-clause-keeps
returns-clause-keeps g c =
    λ before kept.
    kept_on before c.args.self.now _ kept (unchanged_shelf _ _ _ (shelf_of c.args.self.now)) (same_reading _)
    (λ all.
    rw (returns-clause-gave g c)
    (read_taken c.args.self.now.room c.args.count c.args.self.now.at c.args.self.now.filled
    c.args.self.now.piece _ _ c.requires all))
    (limit_taken c.args.self.now.given.bytes _ (unread_of c.args.self.now) c.args.count c.args.self.now.room
    (returns-clause-gave g c) c.requires) (beyond_taken c.args.self.now.room c.args.count c.args.self.now.at
    c.args.self.now.filled c.args.self.now.piece (g.H.Shelf.left c.args.self.now.shelf.now) c.requires)
