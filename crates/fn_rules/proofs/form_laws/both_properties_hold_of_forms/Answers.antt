use Rattle.fn_rules.proofs.Instances.{CarriesForms-both}
use Rattle.fn_rules.proofs.form_laws.both_properties_hold_of_forms.Goals as goal

pub returns : goal.returns
returns c = λ f. CarriesForms-both f (c.functions_keep_forms.ensures f)
