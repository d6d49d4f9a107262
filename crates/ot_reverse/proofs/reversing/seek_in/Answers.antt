-- The goal is that of where the first operation is not taken back.
use Rattle.std.proofs.Common.{IfOk, sym, subst}
use Rattle.fn_rules.specs.Rules.{function_of}
use Rattle.ot_terms.specs.Goals.{GoalTree}
use Rattle.ot_audit.specs.Findings.{IsSoughtIn}
use Rattle.ot_audit.specs.Searchable.{IsSearchable}
use Rattle.ot_reverse.proofs.reversing.seek_in.Goals as goal

pub seek-requires : goal.seek-requires
seek-requires c =
    let f = function_of c.args.rules.now in
    let e = function_of c.args.others.now in
    subst (λ (t : GoalTree). IsSearchable f c.args.first c.args.second t) (sym c.in_ok-goal.ensures)
    (c.goals_are_searchable.ensures f e c.args.first c.args.second c.rules_are_valid.ensures
    c.rules_are_valid-2.ensures c.requires.declared)

pub returns-clause-sought : goal.returns-clause-sought
returns-clause-sought c =
    let f = function_of c.args.rules.now in
    subst (λ (t : GoalTree). IfOk c.seek.result (IsSoughtIn f c.args.first c.args.second t c.args.budget))
    c.in_ok-goal.ensures c.seek.ensures.sought

pub returns-clause-near : goal.returns-clause-near
returns-clause-near c = c.seek.ensures.near
