use Rattle.diff_tables.proofs.RowSteps.{AreLowered-more, kept_of-lowered}
use Rattle.diff_tables.proofs.laws.lowered_rows_keep_the_step.Goals as goal

pub returns-clause-one_more : goal.returns-clause-one_more
returns-clause-one_more c = AreLowered-more

pub returns-clause-added : goal.returns-clause-added
returns-clause-added c = kept_of-lowered
