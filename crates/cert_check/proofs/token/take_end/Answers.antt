use Rattle.std.proofs.Common.{inr}
use Rattle.cert_check.proofs.Places.{end_at_question, end_at_failed}
use Rattle.cert_check.proofs.token.take_end.Goals as goal

pub returns-in-Ask-clause-why : goal.returns-in-Ask-clause-why
returns-in-Ask-clause-why g c =
    let now = g.A.Asker.plan c.turn_at.new.asker in
    let begins = rw c.in-Ask.is at c.in_ok-turn_at.ensures.begins in
    inr (end_at_question now _ c.args.path.now c.in-Ask.lit (now c.in-Ask.yes) (now c.in-Ask.no)
    c.turn_at.ensures.branches begins.2)

pub returns-in-Fails-clause-why : goal.returns-in-Fails-clause-why
returns-in-Fails-clause-why g c =
    let now = g.A.Asker.plan c.turn_at.new.asker in
    let begins = rw c.in-Fails.is at c.in_ok-turn_at.ensures.begins in
    inr (end_at_failed now _ c.args.path.now c.in-Fails.field-0 c.turn_at.ensures.branches begins)
