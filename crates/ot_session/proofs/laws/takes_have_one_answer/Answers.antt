use Rattle.ot_session.proofs.OneAnswer.{HasTaken-one, HasTaken-session, HasTaken-refusal}
use Rattle.ot_session.proofs.laws.takes_have_one_answer.Goals as goal

pub returns-clause-answer : goal.returns-clause-answer
returns-clause-answer c = HasTaken-one

pub returns-clause-session : goal.returns-clause-session
returns-clause-session c = HasTaken-session

pub returns-clause-refusal : goal.returns-clause-refusal
returns-clause-refusal c = HasTaken-refusal
