use Rattle.ot_causal.proofs.Forms.{sought-none_open, sought-newest_open, counted-nil, counted-cons}
use Rattle.ot_causal.proofs.count_laws.forms_are_sought_before_they_are_made.Goals as goal

pub returns-clause-none : goal.returns-clause-none
returns-clause-none c = sought-none_open

pub returns-clause-some : goal.returns-clause-some
returns-clause-some c = sought-newest_open

pub returns-clause-counted_none : goal.returns-clause-counted_none
returns-clause-counted_none c = counted-nil

pub returns-clause-counted_next : goal.returns-clause-counted_next
returns-clause-counted_next c = counted-cons
