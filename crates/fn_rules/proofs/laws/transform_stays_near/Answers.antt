use Rattle.fn_rules.proofs.Forms.{IsWithin-transform_of}
use Rattle.fn_rules.proofs.laws.transform_stays_near.Goals as goal

pub returns : goal.returns
returns c = IsWithin-transform_of
