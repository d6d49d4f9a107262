use Rattle.fn_rules.proofs.Forms.{transform_of-nop}
use Rattle.fn_rules.proofs.laws.nop_stays_nop.Goals as goal

pub returns : goal.returns
returns c = transform_of-nop
