use Rattle.ot_causal.proofs.Closed.{has-newest_open, before-newest_open, newest_open-none, before-none_open}
use Rattle.ot_causal.proofs.list_laws.newest_open_members_are_found.Goals as goal

pub returns-clause-some : goal.returns-clause-some
returns-clause-some c = λ past o l x found. (has-newest_open past o l x found, before-newest_open past o l x found)

pub returns-clause-none : goal.returns-clause-none
returns-clause-none c = newest_open-none

pub returns-clause-all_before : goal.returns-clause-all_before
returns-clause-all_before c = before-none_open
