-- The goal is that of where the functions do not agree.
use Rattle.std.proofs.Common.{IfOk, sym, subst}
use Rattle.fn_rules.specs.Rules.{function_of}
use Rattle.ot_terms.specs.Goals.{GoalTree}
use Rattle.ot_audit.specs.Findings.{IsFoundIn}
use Rattle.ot_audit.specs.Searchable.{IsSearchable}
use Rattle.ot_audit.proofs.agreeing.differ_in.Goals as goal

pub find-requires : goal.find-requires
find-requires c =
    let f = function_of c.args.rules.now in
    let g = function_of c.args.others.now in
    subst (λ (t : GoalTree). IsSearchable f c.args.first c.args.second t) (sym c.in_ok-goal.ensures)
    (c.goals_are_searchable.ensures.difference f g c.args.first c.args.second c.rules_are_valid.ensures
    c.rules_are_valid-2.ensures c.requires.declared)

pub returns-clause-found : goal.returns-clause-found
returns-clause-found c =
    let f = function_of c.args.rules.now in
    subst (λ (t : GoalTree). IfOk c.find.result (IsFoundIn f c.args.first c.args.second t c.args.budget))
    c.in_ok-goal.ensures c.find.ensures.found

pub returns-clause-near : goal.returns-clause-near
returns-clause-near c = c.find.ensures.near
