use Rattle.fn_rules.specs.Validity.{compares_chars}
use Rattle.ot_rewrite.proofs.CasesLeft.{left_near, left_cases, tried, untried}
use Rattle.ot_rewrite.proofs.choosing.next_case.Goals as goal

pub first_case-requires-clause-cases_near : goal.first_case-requires-clause-cases_near
first_case-requires-clause-cases_near c =
    left_near (compares_chars c.in-Some.first c.in-Some-kind.second) c.cases-cases.result.now c.args.case
    c.cases-cases.ensures.valid

pub returns-clause-tries : goal.returns-clause-tries
returns-clause-tries c =
    let left = left_cases c.cases-cases.result.now c.args.case _ c.cases-cases.ensures.cases in
    let first = c.in-Some.ensures in
    let second = c.in-Some-kind.ensures in
    let given = c.first_case.ensures.tries in
    tried c.args.ops.now.a c.args.ops.now.b c.first_case.result _ (rw (← first, ← second, ← left) given)

pub returns-clause-none : goal.returns-clause-none
returns-clause-none c =
    let left = left_cases c.cases-cases.result.now c.args.case _ c.cases-cases.ensures.cases in
    let first = c.in-Some.ensures in
    let second = c.in-Some-kind.ensures in
    let given = c.first_case.ensures.tries in
    untried c.args.ops.now.a c.args.ops.now.b c.first_case.result _ (rw (← first, ← second, ← left) given)
