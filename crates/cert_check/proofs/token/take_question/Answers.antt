use Rattle.std.proofs.Common.{inr}
use Rattle.cert_check.proofs.Places.{question_at_held, question_at_failed}
use Rattle.cert_check.proofs.token.take_question.Goals as goal

pub returns-in-Holds-clause-why : goal.returns-in-Holds-clause-why
returns-in-Holds-clause-why g c =
    let now = g.A.Asker.plan c.turn_at.new.asker in
    let begins = rw c.in-Holds.is at c.in_ok-lit.ensures.begins in
    inr (question_at_held now _ c.args.path.now c.turn_at.ensures.branches c.requires.open begins)

pub returns-in-Fails-clause-why : goal.returns-in-Fails-clause-why
returns-in-Fails-clause-why g c =
    let now = g.A.Asker.plan c.turn_at.new.asker in
    let begins = rw c.in-Fails.is at c.in_ok-lit.ensures.begins in
    inr (question_at_failed now _ c.args.path.now c.in-Fails.field-0 c.turn_at.ensures.branches begins)
