use Rattle.diff_tables.proofs.AddingSteps.{IsSquare-new, StandsFor-new_rows}
use Rattle.diff_tables.proofs.laws.new_rows_stand_for_nothing.Goals as goal

pub returns-clause-square : goal.returns-clause-square
returns-clause-square c = IsSquare-new

pub returns-clause-stands : goal.returns-clause-stands
returns-clause-stands c = StandsFor-new_rows
