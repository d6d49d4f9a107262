use Rattle.fn_text.proofs.Refusals.Told.{one_answer, answers_are_read}
use Rattle.fn_text.proofs.theorems.files_have_one_answer.Goals as goal

pub returns-clause-one : goal.returns-clause-one
returns-clause-one c = one_answer

pub returns-clause-read : goal.returns-clause-read
returns-clause-read c = answers_are_read
