use Rattle.ot_decide.proofs.Leaves.{few_leaves}
use Rattle.ot_decide.proofs.verdicts.certificates_have_few_leaves.Goals as goal

pub returns : goal.returns
returns c = few_leaves
