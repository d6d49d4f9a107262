use Rattle.std.proofs.Common.{refl}
use Rattle.ot_terms.specs.Goals.{order_goal, laid}
use Rattle.ot_rewrite.proofs.FormsThrough.{rule_through}
use Rattle.ot_rewrite.proofs.laws.rules_leave_what_forms_leave.Goals as goal

pub returns : goal.returns
returns c = rule_through order_goal laid (λ g y n. refl)
