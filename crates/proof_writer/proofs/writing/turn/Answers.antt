use Rattle.proof_writer.proofs.writing.turn.Goals as goal

pub returns-in_err-step-clause-front : goal.returns-in_err-step-clause-front
returns-in_err-step-clause-front g c = c.step.ensures.front

pub returns-in_err-step-clause-same : goal.returns-in_err-step-clause-same
returns-in_err-step-clause-same g c = c.step.ensures.same

pub returns-clause-front : goal.returns-clause-front
returns-clause-front g c = c.step.ensures.front

pub returns-clause-nodes : goal.returns-clause-nodes
returns-clause-nodes g c = c.in_ok-step.ensures.nodes

pub returns-clause-same : goal.returns-clause-same
returns-clause-same g c = c.step.ensures.same

pub returns-clause-taken : goal.returns-clause-taken
returns-clause-taken g c = rw c.end_after.ensures.unasked c.in_ok-step.ensures.taken
