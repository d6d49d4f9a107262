use Rattle.ot_questions.proofs.AskedLaws.{plans_are_like, answers_are_like, positions_not_negative}
use Rattle.ot_questions.proofs.asked.plans_compare_like_with_like.Goals as goal

pub returns-clause-plans : goal.returns-clause-plans
returns-clause-plans c = plans_are_like

pub returns-clause-answers : goal.returns-clause-answers
returns-clause-answers c = answers_are_like

pub returns-clause-positions : goal.returns-clause-positions
returns-clause-positions c = positions_not_negative
