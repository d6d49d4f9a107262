use Rattle.ot_heads.proofs.Theorem.{no_transformation}
use Rattle.ot_heads.proofs.laws.plain_text_has_no_transformation.Goals as goal

pub returns : goal.returns
returns c = λ head t is keeps both. no_transformation head t is keeps both.0 both.1
