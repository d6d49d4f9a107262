use Rattle.std.proofs.Common.{sym}
use Rattle.proof_check.proofs.Keeping.{own_kept, own_asked}
use Rattle.proof_check.proofs.Taking.{question_taken_over}
use Rattle.proof_check.proofs.token.take_question.Goals as goal

pub returns-in_ok-ask-in-Ask-clause-ok : goal.returns-in_ok-ask-in-Ask-clause-ok
returns-in_ok-ask-in-Ask-clause-ok g c =
    let begins = rw c.in-Ask.is at c.in_ok-lit.ensures.begins in
    rw c.in_ok-ask-in-Ask.ensures.ok
    (question_taken_over c.follow.ensures.same c.args.places.now c.requires.own c.in-Some.node c.in-Ask.yes c.in-Ask.no
    c.in-Ask.lit (sym (rw c.in-Some.is at c.node.ensures.value)) begins.2)

pub returns-in_ok-ask-in-Ask-clause-own : goal.returns-in_ok-ask-in-Ask-clause-own
returns-in_ok-ask-in-Ask-clause-own g c =
    let begins = rw c.in-Ask.is at c.in_ok-lit.ensures.begins in
    rw c.in_ok-ask-in-Ask.ensures.ok
    (own_asked _ c.args.places.now (own_kept c.follow.ensures.same c.args.places.now c.requires.own)
    c.in-Ask.lit c.in-Ask.yes c.in-Ask.no begins.0 begins.1)
