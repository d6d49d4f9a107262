use Rattle.ot_causal.proofs.Counted.{AreCounted-counted, AreCounted-count_sought, AreCounted-newer}
use Rattle.ot_causal.proofs.Counted.{count_sought-counted, is_among-parts}
use Rattle.ot_causal.proofs.Sought.{count_sought-append}
use Rattle.ot_causal.proofs.count_laws.counted_forms_need_not_be_sought.Goals as goal

pub returns-clause-counted : goal.returns-clause-counted
returns-clause-counted c = λ past seen order. AreCounted-counted past order seen

pub returns-clause-kept : goal.returns-clause-kept
returns-clause-kept c = λ past seen names o l order. AreCounted-count_sought past seen order names o l

pub returns-clause-longer : goal.returns-clause-longer
returns-clause-longer c = λ past seen names o. AreCounted-newer past o seen names names

pub returns-clause-again : goal.returns-clause-again
returns-clause-again c = count_sought-counted

pub returns-clause-last : goal.returns-clause-last
returns-clause-last c = λ past names o l x order. is_among-parts past order names o l x

pub returns-clause-joined : goal.returns-clause-joined
returns-clause-joined c = count_sought-append
