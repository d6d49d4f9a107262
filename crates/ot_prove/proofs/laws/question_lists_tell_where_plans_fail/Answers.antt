use Rattle.std.proofs.Common.{refl}
use Rattle.ot_prove.proofs.Telling.{told_by_list}
use Rattle.ot_prove.proofs.laws.question_lists_tell_where_plans_fail.Goals as goal

pub returns : goal.returns
returns g c p q list = told_by_list c.valuations_answer_questions.ensures p q list q.failing refl
