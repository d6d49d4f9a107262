use Rattle.ot_bound.proofs.PartsListed.{parts_are_of, parts_few, parts_listed}
use Rattle.ot_bound.proofs.property.parts_are_obligations.Goals as goal

pub returns-clause-listed : goal.returns-clause-listed
returns-clause-listed c = parts_listed c.obligations_are_those_of_the_kinds.ensures.declared

pub returns-clause-of_level : goal.returns-clause-of_level
returns-clause-of_level c = parts_are_of

pub returns-clause-few : goal.returns-clause-few
returns-clause-few c = parts_few c.levels_have_few_obligations.ensures
