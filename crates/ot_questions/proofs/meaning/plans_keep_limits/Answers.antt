use Rattle.ot_questions.proofs.Laws.{plans_are_fine, short_plans}
use Rattle.ot_questions.proofs.meaning.plans_keep_limits.Goals as goal

pub returns-clause-fine : goal.returns-clause-fine
returns-clause-fine c = λ f ob valid. plans_are_fine f ob valid

pub returns-clause-short : goal.returns-clause-short
returns-clause-short c = λ f ob valid. short_plans f ob valid
