use Rattle.fn_rules.proofs.LimitsKept.{are_valid_cases-valid}
use Rattle.fn_rules.proofs.laws.cases_are_valid.Goals as goal

pub returns : goal.returns
returns c = are_valid_cases-valid
