use Rattle.ot_causal.proofs.Counted.{have_one_set-iff}
use Rattle.ot_causal.proofs.Counts.{HaveOneSet-as_many, from_site-one_set, from_site-without, from_site-without_other}
use Rattle.ot_causal.proofs.list_laws.closed_lists_are_told_by_their_counts.Goals as goal

pub returns-clause-told : goal.returns-clause-told
returns-clause-told c = λ past l m order. HaveOneSet-as_many past order l m

pub returns-clause-counts : goal.returns-clause-counts
returns-clause-counts c = from_site-one_set

pub returns-clause-tested : goal.returns-clause-tested
returns-clause-tested c = have_one_set-iff

pub returns-clause-taken_out : goal.returns-clause-taken_out
returns-clause-taken_out c = from_site-without

pub returns-clause-others : goal.returns-clause-others
returns-clause-others c = from_site-without_other
