use Rattle.std.proofs.Common.{◌≡◌}
use Rattle.std.proofs.lemmas.Result.{IfOk-weaker}
use Rattle.fn_rules.specs.Rules.{function_of}
use Rattle.fn_rules.specs.Validity.{compares_chars}
use Rattle.ot_terms.specs.Goals.{goal_tree}
use Rattle.ot_audit.proofs.Asked.{near_cases}
use Rattle.ot_reverse.specs.Goals.{reversal_goal}
use Rattle.ot_reverse.proofs.Built.{built}
use Rattle.ot_reverse.proofs.goals.reversal_goal.Goals as goal

pub unless_taken_back-requires-clause-near : goal.unless_taken_back-requires-clause-near
unless_taken_back-requires-clause-near c =
    near_cases (compares_chars c.args.first c.args.second) _ c.cases-cases.ensures.valid

pub unless_taken_back-requires-clause-others_near : goal.unless_taken_back-requires-clause-others_near
unless_taken_back-requires-clause-others_near c =
    near_cases (compares_chars c.args.first c.args.second) _ c.cases-other_cases.ensures.valid

pub returns : goal.returns
returns c =
    let f = function_of c.args.rules.now in
    let e = function_of c.args.others.now in
    IfOk-weaker c.if_both_enabled.result _ (λ r. goal_tree r.now ≡ reversal_goal f e c.args.first c.args.second)
    (λ r.
    built f e c.args.first c.args.second _ _ _ _ _ _ _ (goal_tree r.now) c.named-a.ensures.value c.named-b.ensures.value
    c.head.ensures.head c.cases-cases.ensures.cases c.cases-other_cases.ensures.cases c.in_ok-taken_back.ensures
    c.in_ok-allowed.ensures) c.if_both_enabled.ensures
