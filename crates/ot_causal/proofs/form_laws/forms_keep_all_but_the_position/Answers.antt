use Rattle.ot_causal.proofs.Near.{IsFormOf-form, IsWithin-form}
use Rattle.ot_causal.proofs.form_laws.forms_keep_all_but_the_position.Goals as goal

pub returns-clause-kept : goal.returns-clause-kept
returns-clause-kept c = λ f. IsFormOf-form f (c.transform_keeps_all_but_the_position.ensures f)

pub returns-clause-near : goal.returns-clause-near
returns-clause-near c = λ f past m o l p valid near.
    IsWithin-form f (λ a b result k. c.transform_stays_near.ensures f a b result k valid)
    c.enabled_operations_are_near.ensures.wider past m near o l p
