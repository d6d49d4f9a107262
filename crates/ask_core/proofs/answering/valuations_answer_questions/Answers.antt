use Rattle.ask_core.proofs.FittingTrees.{AreMet-answered}
use Rattle.ask_core.proofs.answering.valuations_answer_questions.Goals as goal

pub returns : goal.returns
returns c = AreMet-answered
