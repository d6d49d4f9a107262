use Rattle.ot_prove.proofs.AllPossible.{possible_list}
use Rattle.ot_prove.proofs.laws.question_lists_are_possible.Goals as goal

pub returns : goal.returns
returns g c = possible_list
