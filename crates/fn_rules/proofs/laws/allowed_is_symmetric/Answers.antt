use Rattle.fn_rules.proofs.Forms.{IsAllowed-sym}
use Rattle.fn_rules.proofs.laws.allowed_is_symmetric.Goals as goal

pub returns : goal.returns
returns c = IsAllowed-sym
