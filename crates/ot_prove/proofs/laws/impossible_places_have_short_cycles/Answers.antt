use Rattle.std.proofs.Common.{[]}
use Rattle.diff_tables.specs.Tables.{kept_of}
use Rattle.ot_prove.proofs.OneList.{fresh_rows, AreNewRows-fresh}
use Rattle.ot_prove.proofs.ShortCycles.{short_cycle}
use Rattle.ot_prove.proofs.laws.impossible_places_have_short_cycles.Goals as goal

pub returns : goal.returns
returns c names w named never =
    short_cycle c.tables_stand_for_what_is_added.ensures.added c.tables_tell_what_is_possible.ensures.possible
    c.tables_tell_what_is_possible.ensures.cycle names w [] (kept_of (fresh_rows names))
    (c.new_rows_stand_for_nothing.ensures.stands names (fresh_rows names) (AreNewRows-fresh names)) named never
