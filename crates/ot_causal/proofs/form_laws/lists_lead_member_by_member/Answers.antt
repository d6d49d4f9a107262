use Rattle.ot_causal.proofs.Forms.{state-nil, state-cons}
use Rattle.ot_causal.proofs.form_laws.lists_lead_member_by_member.Goals as goal

pub returns-clause-none : goal.returns-clause-none
returns-clause-none c = state-nil

pub returns-clause-next : goal.returns-clause-next
returns-clause-next c = state-cons
