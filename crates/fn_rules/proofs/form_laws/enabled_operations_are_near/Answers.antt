use Rattle.fn_rules.proofs.Positions.{IsWithin-more, IsWithin-enabled}
use Rattle.fn_rules.proofs.form_laws.enabled_operations_are_near.Goals as goal

pub returns-clause-wider : goal.returns-clause-wider
returns-clause-wider c = IsWithin-more

pub returns-clause-enabled : goal.returns-clause-enabled
returns-clause-enabled c = IsWithin-enabled
