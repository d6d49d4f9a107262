use Rattle.ot_settle.proofs.settling.shown.Goals as goal

pub returns-then-not-branch-clause-spent : goal.returns-then-not-branch-clause-spent
returns-then-not-branch-clause-spent c = λ budget.
    rw c.settlement.ensures.settled
    (rw c.settlement.ensures.over
    (rw c.settlement.ensures.written (c.cause_of.ensures budget c.settlement.result.asked)))
