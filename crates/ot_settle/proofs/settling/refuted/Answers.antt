use Rattle.ot_settle.proofs.settling.refuted.Goals as goal

pub returns-then-not-branch-clause-spent : goal.returns-then-not-branch-clause-spent
returns-then-not-branch-clause-spent c = λ budget.
    let said = c.settlement-then-not-branch in
    rw said.ensures.settled
    (rw said.ensures.over (rw said.ensures.written (c.cause_of.ensures budget said.result.asked)))
