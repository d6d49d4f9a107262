use Rattle.std.proofs.Common.{◌<◌, rules}
use Rattle.std.proofs.lemmas.Result.{IfOk-weaker}
use Rattle.fn_rules.specs.Rules.{function_of}
use Rattle.ot_terms.specs.Goals.{goal_tree}
use Rattle.ot_terms.specs.Weights.{goal_weight}
use Rattle.start_laws.specs.Settled.{StandsMarked}
use Rattle.ot_starts.proofs.SettledGoals.{settled_on}
use Rattle.ot_starts.proofs.settling.+stopped.Goals as goal

pub stopped-requires : goal.stopped-requires
stopped-requires t c =
    let f = function_of c.args.rules.now in
    let falls : goal_weight f (goal_tree c.in_ok-next.next.now) < goal_weight f (goal_tree c.args.goal.now) =
    c.in_ok-next.ensures.lighter in
    (search (rules, falls), (c.requires.0, c.in_ok-next.ensures.alike.belongs c.requires.0 c.requires.1))

pub returns-clause-alike : goal.returns-clause-alike
returns-clause-alike t c =
    let f = function_of c.args.rules.now in
    let old = goal_tree c.args.goal.now in
    let next = goal_tree c.in_ok-next.next.now in
    IfOk-weaker c.stopped.result (λ r. StandsMarked f next (goal_tree r.now))
    (λ r. StandsMarked f old (goal_tree r.now))
    (λ r. settled_on f old next (goal_tree r.now) c.in_ok-next.ensures.alike) c.stopped.ensures.alike

pub returns-clause-settled : goal.returns-clause-settled
returns-clause-settled t c = c.stopped.ensures.settled
