use Rattle.std.proofs.Common.{◌≡◌, map, take, sym, subst}
use Rattle.std.proofs.lemmas.Result.{IfOk-weaker}
use Rattle.fn_rules.specs.Functions.{case_of}
use Rattle.ot_questions.specs.Nears.{IsNearCase}
use Rattle.ot_terms.specs.Goals.{goal_tree}
use Rattle.ot_audit.specs.declared.target.Target.TheVariants.{Case}
use Rattle.ot_audit.specs.Goals.{at_target, unless_true}
use Rattle.ot_audit.proofs.Chosen.{near_at, near_front, case_reached}
use Rattle.ot_audit.proofs.goals.at_case.Goals as goal

pub at_own-requires-clause-near : goal.at_own-requires-clause-near
at_own-requires-clause-near c =
    subst (λ x. IsNearCase (case_of x)) (sym c.index-cases-at.is)
    (near_at c.args.cases.now c.args.number c.index-cases-at.result c.requires.near c.requires.number)

pub unless_true-requires-clause-near : goal.unless_true-requires-clause-near
unless_true-requires-clause-near c = near_front c.args.cases.now c.args.number c.requires.near

pub returns : goal.returns
returns c =
    let cases = c.args.cases.now in
    let a = c.args.a in
    let b = c.args.b in
    let own = goal_tree c.in_ok-own.own.now in
    IfOk-weaker c.unless_true.result (λ r. goal_tree r.now
    ≡ unless_true (map case_of (take c.args.number cases)) a b own)
    (λ r. goal_tree r.now ≡ at_target (map case_of cases) (Case c.args.number) a b)
    (λ r. case_reached cases c.args.number c.index-cases-at.result a b own (goal_tree r.now) c.requires.number
    c.index-cases-at.is c.in_ok-own.ensures)
    c.unless_true.ensures
