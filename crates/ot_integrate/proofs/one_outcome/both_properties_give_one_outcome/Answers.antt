use Rattle.ot_integrate.proofs.OneOutcome.{HasOneOutcome-from_both}
use Rattle.ot_integrate.proofs.one_outcome.both_properties_give_one_outcome.Goals as goal

pub returns : goal.returns
returns c = λ f tp1 tp2. HasOneOutcome-from_both f (c.both_properties_hold_of_forms.ensures f tp1 tp2)
