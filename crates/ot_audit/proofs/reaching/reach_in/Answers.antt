-- The goal is that of the target.
use Rattle.std.proofs.Common.{IfOk, sym, subst}
use Rattle.fn_rules.specs.Rules.{function_of}
use Rattle.ot_terms.specs.Goals.{GoalTree}
use Rattle.ot_audit.specs.Findings.{IsFoundIn}
use Rattle.ot_audit.specs.Searchable.{IsSearchable}
use Rattle.ot_audit.proofs.reaching.reach_in.Goals as goal

pub find-requires : goal.find-requires
find-requires c =
    subst (λ (t : GoalTree). IsSearchable (function_of c.args.rules.now) c.args.first c.args.second t)
    (sym c.in_ok-goal.ensures) (c.goals_are_searchable.ensures.target (function_of c.args.rules.now) c.args.first
    c.args.second c.args.target c.rules_are_valid.ensures c.requires.declared)

pub returns : goal.returns
returns c =
    let f = function_of c.args.rules.now in
    subst (λ (t : GoalTree). IfOk c.find.result (IsFoundIn f c.args.first c.args.second t c.args.budget))
    c.in_ok-goal.ensures c.find.ensures.found
