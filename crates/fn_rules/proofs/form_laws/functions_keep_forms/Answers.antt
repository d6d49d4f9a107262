use Rattle.fn_rules.proofs.Instances.{KeepsForms-every}
use Rattle.fn_rules.proofs.form_laws.functions_keep_forms.Goals as goal

pub returns : goal.returns
returns c = λ f. KeepsForms-every f (λ n o. (c.tests_decide_their_facts.ensures.enabled n o).1)
