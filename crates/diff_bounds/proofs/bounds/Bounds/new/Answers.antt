use Rattle.std.proofs.Common.{rules, []}
use Rattle.diff_tables.specs.Steps.{AreNewRows}
use Rattle.diff_bounds.proofs.bounds.Bounds.new.Goals as goal

pub returns : goal.returns
returns g c =
    let new : AreNewRows g.row.N g.row.N c.begin_rows.new.rows = search rules in
    c.new_rows_stand_for_nothing.ensures.stands g.row.N c.begin_rows.new.rows new

pub invariant_of-result : goal.invariant_of-result
invariant_of-result g c =
    let new : AreNewRows g.row.N g.row.N c.begin_rows.new.rows = search rules in
    record {
      few = c.requires.few;
      len = new.0;
      square = c.new_rows_stand_for_nothing.ensures.square g.row.N c.begin_rows.new.rows new;
      list = [];
      stands = returns g c;
      small = tt;
    }
