use Rattle.ot_drill.proofs.Converging.{drill-HasTp1}
use Rattle.ot_drill.proofs.Commuting.{drill-HasTp2}
use Rattle.ot_drill.proofs.Generated.{functions_are_valid}
use Rattle.ot_drill.proofs.laws.drill_functions_have_both_properties.Goals as goal

pub returns-clause-tp1 : goal.returns-clause-tp1
returns-clause-tp1 c = drill-HasTp1

pub returns-clause-tp2 : goal.returns-clause-tp2
returns-clause-tp2 c = drill-HasTp2

pub returns-clause-valid : goal.returns-clause-valid
returns-clause-valid c = functions_are_valid
