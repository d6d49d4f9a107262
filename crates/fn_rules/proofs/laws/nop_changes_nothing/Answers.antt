use Rattle.fn_rules.proofs.Forms.{transform_of-by_nop}
use Rattle.fn_rules.proofs.laws.nop_changes_nothing.Goals as goal

pub returns : goal.returns
returns c = transform_of-by_nop
