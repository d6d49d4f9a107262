use Rattle.std.proofs.Common.{◌<◌, ◌≤◌, length, refl, ap, arith}
use Rattle.ot_outside.specs.Reads.{Reads}
use Rattle.ot_outside.proofs.Keeping.{kept_on}
use Rattle.ot_outside.proofs.Pieces.{beyond_given, limit_given, next_given, no_room, at_end, read_given}
use Rattle.ot_outside.proofs.shelf_feed.ShelfFeedFeed.next.Goals as goal
use Rattle.ot_outside.proofs.shelf_feed.ShelfFeedFeed.next.Goals.{then-self-eq0-via-then-self-eq0}
use Rattle.ot_outside.proofs.shelf_feed.ShelfFeedFeed.next.Goals.{
  then-self-eq0-via-else-self-eq0+in_ok-fill+then-not-branch,
}

pub returns-then-self-eq0-clause-ok : goal.returns-then-self-eq0-clause-ok
returns-then-self-eq0-clause-ok g c =
    elim c.then-self-eq0.branch [
      | then-self-eq0-via-then-self-eq0 w ↦ (no_room _ _ w.if-self-eq0.true, rw w.self-is refl)
      | then-self-eq0-via-else-self-eq0+in_ok-fill+then-not-branch w ↦ (
        at_end _ _ (w.in_ok-fill.ensures.end w.if-not-branch.true),
        rw (w.self-is, w.in_ok-fill.ensures.file_left, w.in_ok-fill.ensures.room) refl,
      )
    ]

pub returns-clause-ok : goal.returns-clause-ok
returns-clause-ok g c =
    let below : c.fill.new.self.at < c.fill.new.self.filled = c.in_ok-fill.ensures.there c.if-not-branch.false in
    let within : c.fill.new.self.filled ≤ length c.fill.new.self.piece = c.fill.new.self.within in
    let some : 0 < c.fill.new.self.room = omega (arith, c.in_ok-fill.ensures.room) in
    rw (← c.in_ok-fill.ensures.room, ← c.in_ok-fill.ensures.file_left) (next_given _ _ _ _ _ some below within)

-- what was kept before the call is kept, with the byte that was given
pub returns-clause-keeps : goal.returns-clause-keeps
returns-clause-keeps g c =
    λ before kept.
    let below : c.fill.new.self.at < c.fill.new.self.filled = c.in_ok-fill.ensures.there c.if-not-branch.false in
    let within : c.fill.new.self.filled ≤ length c.fill.new.self.piece = c.fill.new.self.within in
    let some : 0 < c.fill.new.self.room = omega (arith, c.in_ok-fill.ensures.room) in
    kept_on before c.args.self.now _ kept c.in_ok-fill.ensures.unchanged c.in_ok-fill.ensures.reading
    (λ all.
    rw (ap (λ (r : Reads). r.bytes) c.note.ensures)
    (read_given c.fill.new.self.at c.fill.new.self.filled c.fill.new.self.piece _ _ below within
    (c.in_ok-fill.ensures.read all)))
    (limit_given _ c.fill.new.self.given.bytes _ _ _ _ (ap (λ (r : Reads). r.bytes) c.note.ensures)
    c.in_ok-fill.ensures.gave c.in_ok-fill.ensures.room some)
    (rw (← c.in_ok-fill.ensures.room, ← c.in_ok-fill.ensures.file_left) (beyond_given _ _ _ _ _ some below within))
