-- Some judgement.
use Rattle.ot_judge.proofs.SomeJudgement.{some_judgement}
use Rattle.ot_judge.proofs.laws.all_bytes_have_a_judgement.Goals as goal

pub returns : goal.returns
returns c = some_judgement c.certificates_are_parts_that_fit.ensures.certificate c.all_bytes_are_judged.ensures
