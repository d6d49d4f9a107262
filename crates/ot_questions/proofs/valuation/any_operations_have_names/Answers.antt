use Rattle.ot_questions.proofs.Instances.{all_named}
use Rattle.ot_questions.proofs.valuation.any_operations_have_names.Goals as goal

pub returns : goal.returns
returns c = all_named
