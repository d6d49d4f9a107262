use Rattle.fn_rules.proofs.Instances.{ConvergesOnForms-tp1}
use Rattle.fn_rules.proofs.form_laws.tp1_holds_of_forms.Goals as goal

pub returns : goal.returns
returns c = ConvergesOnForms-tp1
