use Rattle.ot_values.proofs.LeastValues.{above, small_parts, lowest}
use Rattle.ot_values.proofs.laws.answers_have_least_values.Goals as goal

pub returns-clause-above : goal.returns-clause-above
returns-clause-above c = above

pub returns-clause-small : goal.returns-clause-small
returns-clause-small c = small_parts

pub returns-clause-lowest : goal.returns-clause-lowest
returns-clause-lowest c = lowest
