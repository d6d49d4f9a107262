use Rattle.std.proofs.Common.{◌≡◌, true, false, subst, sym, ◌∙◌}
use Rattle.diff_graph.specs.declared.lit.Lit.{Lit}
use Rattle.diff_graph.specs.Literals.{negated}
use Rattle.diff_tables.specs.Tables.{kept_of}
use Rattle.diff_bounds.specs.Kept.{has_room}
use Rattle.search_places.proofs.Possible.{AddsAnswer-kept, keeps-yes}
use Rattle.search_places.proofs.split.room_of.Goals as goal

-- no has no room: yes follows already
pub returns-then-not-allows : goal.returns-then-not-allows
returns-then-not-allows c =
    let rows = c.args.table.now in
    let lit = c.args.lit in
    let no_room : has_room (kept_of rows) (negated lit) ≡ false =
    subst (λ (x : Lit). has_room (kept_of rows) x ≡ false) c.answered.ensures
    (sym c.allows.ensures.room ∙ c.if-not-allows.true) in (
      AddsAnswer-kept c.tables_stand_for_what_is_added.ensures.kept rows lit true c.args.number c.requires.named
          (keeps-yes (kept_of rows lit.x lit.y) lit.k no_room),
      no_room,
    )
