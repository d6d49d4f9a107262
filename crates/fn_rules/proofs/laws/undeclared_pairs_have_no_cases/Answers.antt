use Rattle.fn_rules.proofs.LimitsKept.{cases_of-undeclared}
use Rattle.fn_rules.proofs.laws.undeclared_pairs_have_no_cases.Goals as goal

pub returns : goal.returns
returns c = cases_of-undeclared
