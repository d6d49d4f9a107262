use Rattle.ot_terms.proofs.StartTruth.{start_of_means, start_of_means_everywhere}
use Rattle.ot_terms.proofs.laws.first_goals_stand_for_obligations.Goals as goal

-- src/laws.rt:49:1
pub returns-clause-instance : goal.returns-clause-instance
returns-clause-instance c = start_of_means

-- src/laws.rt:49:1
pub returns-clause-whole : goal.returns-clause-whole
returns-clause-whole c = start_of_means_everywhere
