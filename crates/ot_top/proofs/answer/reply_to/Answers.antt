use Rattle.ot_top.proofs.answer.reply_to.Goals as goal

pub returns-in-Check-clause-ok : goal.returns-in-Check-clause-ok
returns-in-Check-clause-ok g c = rw c.in-Check.is c.check.ensures.ok

pub returns-in-Bound-clause-ok : goal.returns-in-Bound-clause-ok
returns-in-Bound-clause-ok g c = rw c.in-Bound.is c.bound.ensures.ok

pub returns-in-Confirm-clause-ok : goal.returns-in-Confirm-clause-ok
returns-in-Confirm-clause-ok g c = rw c.in-Confirm.is c.confirm.ensures.ok
