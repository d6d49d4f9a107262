use Rattle.fn_rules.specs.Properties.{converges_exchanged, commutes_exchanged}
use Rattle.fn_rules.proofs.laws.properties_are_symmetric.Goals as goal

pub returns-clause-converging : goal.returns-clause-converging
returns-clause-converging c = converges_exchanged

pub returns-clause-commuting : goal.returns-clause-commuting
returns-clause-commuting c = commutes_exchanged
