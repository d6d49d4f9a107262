use Rattle.std.proofs.Common.{◌≡◌, false, subst, sym, ◌∙◌}
use Rattle.diff_graph.specs.declared.lit.Lit.{Lit}
use Rattle.diff_tables.specs.Tables.{kept_of}
use Rattle.diff_bounds.specs.Kept.{has_room}
use Rattle.ask_core.specs.declared.asker.TheConstants.{MAX_NAMES}
use Rattle.search_places.proofs.Possible.{AddsAnswer-kept, keeps-no}
use Rattle.search_places.proofs.split.excludes_yes.Goals as goal

-- yes has no room: no follows already, and the table has the cycle that shows it
pub returns-clause-excluded : goal.returns-clause-excluded
returns-clause-excluded c excluded =
    let rows = c.args.table.now in
    let lit = c.args.lit in
    let named = c.requires.named in
    let no_room : has_room (kept_of rows) lit ≡ false =
    subst (λ (x : Lit). has_room (kept_of rows) x ≡ false) c.answered.ensures (sym c.allows.ensures.room
    ∙ c.if-allows.false) in (
      AddsAnswer-kept c.tables_stand_for_what_is_added.ensures.kept rows lit false c.args.number (named.1, named.0)
          (keeps-no (kept_of rows lit.y lit.x) lit.k no_room),
      λ ps stands.
          c.tables_tell_what_is_possible.ensures.cycle MAX_NAMES (kept_of rows) ps c.args.number
          lit stands named no_room,
    )
