use Rattle.ot_causal.proofs.Forms.{form-none_open, form-newest_open, form-cons}
use Rattle.ot_causal.proofs.form_laws.forms_are_made_from_shorter_ones.Goals as goal

pub returns-clause-whole : goal.returns-clause-whole
returns-clause-whole c = form-none_open

pub returns-clause-moved : goal.returns-clause-moved
returns-clause-moved c = form-newest_open

pub returns-clause-newest : goal.returns-clause-newest
returns-clause-newest c = form-cons
