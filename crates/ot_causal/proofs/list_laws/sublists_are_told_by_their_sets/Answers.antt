use Rattle.ot_causal.proofs.Members.{IsSublist-itself, IsSublist-without, has-sublist, one_list}
use Rattle.ot_causal.proofs.Closed.{IsDistinct-closed}
use Rattle.ot_causal.proofs.list_laws.sublists_are_told_by_their_sets.Goals as goal

pub returns-clause-told : goal.returns-clause-told
returns-clause-told c = λ past n l m closed part_l part_m. one_list part_l part_m (IsDistinct-closed past n closed)

pub returns-clause-whole : goal.returns-clause-whole
returns-clause-whole c = IsSublist-itself

pub returns-clause-without : goal.returns-clause-without
returns-clause-without c = λ x l m. IsSublist-without x

pub returns-clause-members : goal.returns-clause-members
returns-clause-members c = λ l m x part. has-sublist part x
