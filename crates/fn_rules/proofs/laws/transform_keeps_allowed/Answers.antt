use Rattle.fn_rules.proofs.Forms.{IsFormOf-transform_of, IsAllowed-form}
use Rattle.fn_rules.proofs.laws.transform_keeps_allowed.Goals as goal

pub returns : goal.returns
returns c = λ f a b form d is allowed. IsAllowed-form f a form d (IsFormOf-transform_of f a b form is) allowed
