use Rattle.fn_rules.specs.Obligations.{declared_pairs}
use Rattle.ot_reverse.proofs.One.{pairs_once}
use Rattle.ot_reverse.proofs.laws.answers_are_one.Goals as goal

pub returns : goal.returns
returns c = λ f e budget. pairs_once c.findings_are_one.ensures.sought f e budget (declared_pairs f.head)
