use Rattle.fn_rules.proofs.LimitsKept.{may_compare-case}
use Rattle.fn_rules.proofs.laws.characters_are_compared_where_they_are.Goals as goal

pub returns : goal.returns
returns c = may_compare-case
