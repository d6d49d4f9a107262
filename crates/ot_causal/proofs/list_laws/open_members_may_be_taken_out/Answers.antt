use Rattle.ot_causal.proofs.Born.{IsOrderly-sound}
use Rattle.ot_causal.proofs.Openings.{IsOpening-newest_open}
use Rattle.ot_causal.proofs.list_laws.open_members_may_be_taken_out.Goals as goal

pub returns-clause-order : goal.returns-clause-order
returns-clause-order c = IsOrderly-sound

pub returns-clause-opening : goal.returns-clause-opening
returns-clause-opening c = λ past o l x order. IsOpening-newest_open past order o l x
