use Rattle.std.proofs.Common.{◌≤◌, length, arith}
use Rattle.ot_outside.proofs.Pieces.{follows_by_piece, told_by_piece}
use Rattle.ot_outside.proofs.shelf_feed.ShelfFeed.too_long.Goals as goal

pub returns-clause-ok : goal.returns-clause-ok
returns-clause-ok g c =
    let within : c.fill.new.self.filled ≤ length c.fill.new.self.piece = c.fill.new.self.within in
    told_by_piece _ _ _ _ _ _ c.fill.result (omega arith) c.fill.ensures.file_left within
    c.fill.ensures.there c.fill.ensures.end

pub returns-clause-there : goal.returns-clause-there
returns-clause-there g c =
    let within : c.fill.new.self.filled ≤ length c.fill.new.self.piece = c.fill.new.self.within in
    follows_by_piece c.args.self.now.room c.fill.new.self.at c.fill.new.self.filled c.fill.new.self.piece c.fill.result
    (omega arith) within c.fill.ensures.there
