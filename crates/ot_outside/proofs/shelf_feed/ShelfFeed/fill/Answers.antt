use Rattle.std.proofs.Common.{refl, sym, ◌∙◌}
use Rattle.ot_outside.proofs.Pieces.{used_up}
use Rattle.ot_outside.proofs.shelf_feed.ShelfFeed.fill.Goals as goal
use Rattle.ot_outside.proofs.shelf_feed.ShelfFeed.fill.Goals.{then-self+in_ok-self, else-self}

pub returns-clause-file_left : goal.returns-clause-file_left
returns-clause-file_left g c =
    elim c.if-self.branch [
      | then-self+in_ok-self w ↦ rw (w.self-is) (sym w.in_ok-self.ensures.ok ∙ sym (used_up _ _ _ _ w.if-self.true))
      | else-self w ↦ rw (w.self-is) refl
    ]
