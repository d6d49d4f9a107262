use Rattle.ot_hub.proofs.Across.{CarriesAcross-tp1}
use Rattle.ot_hub.proofs.laws.tp1_carries_across.Goals as goal

pub returns : goal.returns
returns c = λ f tp1. CarriesAcross-tp1 f (c.functions_keep_forms.ensures f) (c.tp1_holds_of_forms.ensures f tp1)
