use Rattle.ot_questions.proofs.AskedLaws.{natural_names_stand}
use Rattle.ot_questions.proofs.asked.names_stand_for_operations.Goals as goal

pub returns : goal.returns
returns c = natural_names_stand
