use Rattle.std.proofs.lemmas.Result.{IfOk-weaker}
use Rattle.fn_rules.specs.Validity.{compares_chars}
use Rattle.ot_rewrite.proofs.CasesLeft.{left_near, left_cases}
use Rattle.ot_rewrite.proofs.choosing.choose.Goals as goal

pub choose_case-requires-clause-cases_near : goal.choose_case-requires-clause-cases_near
choose_case-requires-clause-cases_near c =
    left_near (compares_chars c.in-Some.first c.in-Some-kind.second) c.cases-cases.result.now c.args.case
    c.cases-cases.ensures.valid

pub returns : goal.returns
returns c =
    let left = left_cases c.cases-cases.result.now c.args.case _ c.cases-cases.ensures.cases in
    let first = c.in-Some.ensures in
    let second = c.in-Some-kind.ensures in
    IfOk-weaker c.choose_case.result _ _ (λ r given. rw (← first, ← second, ← left) given) c.choose_case.ensures
