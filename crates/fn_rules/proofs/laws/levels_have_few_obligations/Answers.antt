use Rattle.fn_rules.proofs.LevelLengths.{few_obligations}
use Rattle.fn_rules.proofs.laws.levels_have_few_obligations.Goals as goal

pub returns : goal.returns
returns c = few_obligations
