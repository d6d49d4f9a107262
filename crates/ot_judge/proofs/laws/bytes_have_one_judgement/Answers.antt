-- One judgement.
use Rattle.ot_judge.proofs.OneJudgement.{one_judgement}
use Rattle.ot_judge.proofs.laws.bytes_have_one_judgement.Goals as goal

pub returns : goal.returns
returns c = one_judgement c.bytes_are_judged_once.ensures c.certificates_are_parts_that_fit.ensures.parts
