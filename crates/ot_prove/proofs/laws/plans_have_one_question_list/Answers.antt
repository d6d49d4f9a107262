use Rattle.std.proofs.Common.{[]}
use Rattle.diff_tables.specs.Tables.{kept_of}
use Rattle.ot_prove.proofs.OneList.{some_list, one_list, fresh_rows, AreNewRows-fresh}
use Rattle.ot_prove.proofs.laws.plans_have_one_question_list.Goals as goal

pub returns-clause-some : goal.returns-clause-some
returns-clause-some g c count p fine =
    some_list c.tables_stand_for_what_is_added.ensures.added c.tables_tell_what_is_possible.ensures.possible count
    (kept_of (fresh_rows count)) p [] fine.literals
    (c.new_rows_stand_for_nothing.ensures.stands count (fresh_rows count) (AreNewRows-fresh count))

pub returns-clause-one : goal.returns-clause-one
returns-clause-one g c = one_list
