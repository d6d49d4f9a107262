use Rattle.proof_check.proofs.Completing.{CompletesWanted-step, CompletesWanted-refused}
use Rattle.proof_check.proofs.laws.proof_tokens_are_taken_one_by_one.Goals as goal

pub returns-clause-taken : goal.returns-clause-taken
returns-clause-taken g c = CompletesWanted-step

pub returns-clause-refused : goal.returns-clause-refused
returns-clause-refused g c = CompletesWanted-refused
