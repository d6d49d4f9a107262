use Rattle.ot_questions.proofs.Lengths.{shorter_from_bounded, bounded_from_shorter}
use Rattle.ot_questions.proofs.meaning.bounded_plans_mean_shorter_documents.Goals as goal

pub returns : goal.returns
returns c = λ f ob bound. (shorter_from_bounded f ob bound, bounded_from_shorter f ob bound)
