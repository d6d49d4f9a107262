use Rattle.fn_rules.specs.Rules.{function_of}
use Rattle.ot_terms.specs.Goals.{goal_tree}
use Rattle.ot_terms.proofs.GoalTruth.{goal_holds_alike}
use Rattle.ot_rewrite.specs.Steps.{front_tree}
use Rattle.ot_rewrite.proofs.Fronted.{next_given, none_given}
use Rattle.ot_rewrite.proofs.FrontLaws.{goal_stops}
use Rattle.ot_rewrite.proofs.Reached.{reached_kept, rule_behind}
use Rattle.ot_rewrite.proofs.RulesKept.{rule_kept}
use Rattle.ot_rewrite.proofs.Ready.{ready}
use Rattle.ot_rewrite.proofs.simplifying.front_of.Goals as goal

pub rewrite-requires : goal.rewrite-requires
rewrite-requires c =
    let f = function_of c.args.rules.now in
    let kept = reached_kept f c.requires.0 c.rules_are_valid.ensures (goal_tree c.args.goal.now)
    (front_tree c.loop-next.front) c.requires.1 c.loop-next.invariant in
    ready f c.requires.0 (front_tree c.loop-next.front) kept.belongs

pub loop-next-smaller : goal.loop-next-smaller
loop-next-smaller c =
    let f = function_of c.args.rules.now in
    let kept = reached_kept f c.requires.0 c.rules_are_valid.ensures (goal_tree c.args.goal.now)
    (front_tree c.loop-next.front) c.requires.1 c.loop-next.invariant in
    let next = next_given f (front_tree c.loop-next.front) c.in_ok-next.field-0 c.in-Some.next c.same_front-front.result
    c.in_ok-next.ensures c.in-Some.is c.same_front-front.ensures in
    (rule_kept f c.requires.0 (front_tree c.loop-next.front) (front_tree c.same_front-front.result)
    c.rules_are_valid.ensures kept.belongs next).lighter

pub loop-next-preserved : goal.loop-next-preserved
loop-next-preserved c =
    let f = function_of c.args.rules.now in
    let next = next_given f (front_tree c.loop-next.front) c.in_ok-next.field-0 c.in-Some.next c.same_front-front.result
    c.in_ok-next.ensures c.in-Some.is c.same_front-front.ensures in
    rule_behind f (goal_tree c.args.goal.now) (front_tree c.loop-next.front) (front_tree c.same_front-front.result)
    c.loop-next.invariant next

pub returns-clause-at_front : goal.returns-clause-at_front
returns-clause-at_front c =
    let f = function_of c.args.rules.now in
    (goal_stops f (front_tree c.loop-next.front)).0
    (none_given f (front_tree c.loop-next.front) c.in_ok-next.field-0 c.in_ok-next.ensures c.in_default.is)

pub returns-clause-asks : goal.returns-clause-asks
returns-clause-asks c =
    (reached_kept (function_of c.args.rules.now) c.requires.0 c.rules_are_valid.ensures (goal_tree c.args.goal.now)
    (front_tree c.loop-next.front) c.requires.1 c.loop-next.invariant).asked

pub returns-clause-belongs : goal.returns-clause-belongs
returns-clause-belongs c = λ ob is_goal.
    (reached_kept (function_of c.args.rules.now) ob c.rules_are_valid.ensures (goal_tree c.args.goal.now)
    (front_tree c.loop-next.front) is_goal c.loop-next.invariant).belongs

pub returns-clause-weighs : goal.returns-clause-weighs
returns-clause-weighs c =
    (reached_kept (function_of c.args.rules.now) c.requires.0 c.rules_are_valid.ensures (goal_tree c.args.goal.now)
    (front_tree c.loop-next.front) c.requires.1 c.loop-next.invariant).lighter

pub returns-clause-truth : goal.returns-clause-truth
returns-clause-truth c = λ v.
    let f = function_of c.args.rules.now in
    let kept = reached_kept f c.requires.0 c.rules_are_valid.ensures (goal_tree c.args.goal.now)
    (front_tree c.loop-next.front) c.requires.1 c.loop-next.invariant in
    goal_holds_alike f c.requires.0 (front_tree c.loop-next.front) (goal_tree c.args.goal.now) v
    kept.belongs c.requires.1 kept.asked
