use Rattle.fn_rules.proofs.Forms.{IsFormOf-transform_of}
use Rattle.fn_rules.proofs.laws.transform_keeps_all_but_the_position.Goals as goal

pub returns : goal.returns
returns c = IsFormOf-transform_of
