use Rattle.std.proofs.lemmas.Result.{IfOk-weaker}
use Rattle.fn_rules.specs.Rules.{function_of}
use Rattle.ot_terms.specs.Goals.{goal_tree}
use Rattle.start_laws.specs.Settled.{StandsMarked, OpensStart}
use Rattle.ot_starts.proofs.SettledGoals.{next_opens, opens_by}
use Rattle.ot_starts.proofs.table.laid_behind.Goals as goal

-- the goal after one rule is of the obligation
pub laid-requires-clause-goal : goal.laid-requires-clause-goal
laid-requires-clause-goal c =
    let f = function_of c.args.rules.now in
    let opens = next_opens f (goal_tree c.args.goal.now) (λ g. goal_tree g.now) c.in_ok-next.field-0 c.in-Some.next
    c.in-Some.is c.in_ok-next.ensures.rule c.in_ok-next.ensures.kept
    (λ h given. c.rules_keep_starts.ensures.opened f c.requires.goal.0 (goal_tree c.args.goal.now) h
    c.rules_are_valid.ensures c.requires.goal.1 given) in
    (c.requires.goal.0, opens.belongs c.requires.goal.0 c.requires.goal.1)

-- and what is laid out of it stands for the goal, but for the start
pub returns-in-Some-clause-opens : goal.returns-in-Some-clause-opens
returns-in-Some-clause-opens c =
    let f = function_of c.args.rules.now in
    let old = goal_tree c.args.goal.now in
    let next = goal_tree c.in-Some.next.now in
    let opens = next_opens f old (λ g. goal_tree g.now) c.in_ok-next.field-0 c.in-Some.next c.in-Some.is
    c.in_ok-next.ensures.rule c.in_ok-next.ensures.kept
    (λ h given. c.rules_keep_starts.ensures.opened f c.requires.goal.0 old h c.rules_are_valid.ensures
    c.requires.goal.1 given) in
    IfOk-weaker c.laid.result (λ r. StandsMarked f next (goal_tree r.now)) (λ r. OpensStart f old (goal_tree r.now))
    (λ r. opens_by f old next (goal_tree r.now) opens) c.laid.ensures.stands

pub returns-in-Some-clause-ends : goal.returns-in-Some-clause-ends
returns-in-Some-clause-ends c = c.laid.ensures.kept
