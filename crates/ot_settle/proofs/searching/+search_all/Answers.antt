use Rattle.std.proofs.Common.{subst}
use Rattle.fn_rules.specs.Rules.{function_of}
use Rattle.ot_questions.specs.declared.why.Why.{Why}
use Rattle.ot_questions.specs.Obligation.{plan_of}
use Rattle.plan_proofs.specs.declared.ended.Ended.{Ended}
use Rattle.ot_settle.specs.declared.ending.FailingEnd.{FailingEnd}
use Rattle.plan_proofs.specs.Searching.{FailsOnlySo}
use Rattle.ot_settle.specs.Endings.{IsFailingEnd}
use Rattle.ot_settle.proofs.FirstFailing.{first_fails, others_fail}
use Rattle.ot_settle.proofs.searching.+search_all.Goals as goal

pub returns-in_ok-rest-in-Shown-clause-ended : goal.returns-in_ok-rest-in-Shown-clause-ended
returns-in_ok-rest-in-Shown-clause-ended t c =
    rw c.searched-in-Shown.ensures.ended
    (others_fail (function_of c.args.rules.now) c.args.names.now c.in-Some.ob.now c.in-Some.others.now
    c.in-Some.ensures.cases.0 c.requires.listed c.in_ok-rest-in-Shown.rest.ended c.in_ok-rest-in-Shown.ensures.ended)

pub returns-in-Fails-clause-ended : goal.returns-in-Fails-clause-ended
returns-in-Fails-clause-ended t c =
    let f = function_of c.args.rules.now in
    rw c.searched-in-Fails.ensures.ended
    (first_fails f c.args.names.now c.in-Some.ob.now c.in-Some.others.now c.in-Some.ensures.cases.0 c.requires.listed
    c.in-Fails.end (subst (λ (e : Ended (FailingEnd Why)). FailsOnlySo (IsFailingEnd (plan_of f c.in-Some.ob.now)) e)
    c.in-Fails.is c.in_ok-first.ensures.ended))
