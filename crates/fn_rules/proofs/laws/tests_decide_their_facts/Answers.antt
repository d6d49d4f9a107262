use Rattle.fn_rules.proofs.Naming.{names_each_once-fact}
use Rattle.fn_rules.proofs.laws.tests_decide_their_facts.Goals as goal

pub returns-clause-once : goal.returns-clause-once
returns-clause-once c = names_each_once-fact
