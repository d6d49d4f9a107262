use Rattle.diff_tables.proofs.RowSteps.{kept_of-lowered, IsSquare-lowered}
use Rattle.diff_tables.proofs.rows.add.Goals as goal

pub returns-clause-added : goal.returns-clause-added
returns-clause-added c =
    kept_of-lowered c.args.rows.now c.lower_rows.new.rows c.fill_ways.new.ways c.args.number c.args.lit
    c.requires.square c.requires.named c.lower_rows.auto.rows c.lower_rows.ensures c.fill_ways.ensures.ways

pub returns-clause-square : goal.returns-clause-square
returns-clause-square c =
    IsSquare-lowered c.fill_ways.new.ways c.args.lit.y c.args.rows.now c.lower_rows.new.rows c.requires.square
    c.lower_rows.auto.rows c.lower_rows.ensures
