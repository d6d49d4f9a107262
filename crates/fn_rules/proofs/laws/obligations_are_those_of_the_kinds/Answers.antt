use Rattle.fn_rules.proofs.KindPairs.{Contains-declared_pair, Contains-declared_triple}
use Rattle.fn_rules.proofs.laws.obligations_are_those_of_the_kinds.Goals as goal

pub returns-clause-pairs : goal.returns-clause-pairs
returns-clause-pairs c = Contains-declared_pair

pub returns-clause-triples : goal.returns-clause-triples
returns-clause-triples c = Contains-declared_triple
