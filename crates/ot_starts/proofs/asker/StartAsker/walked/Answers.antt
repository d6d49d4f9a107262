use Rattle.std.proofs.Common.{refl}
use Rattle.std.proofs.lemmas.Result.{IfOk-weaker}
use Rattle.fn_rules.specs.Rules.{function_of}
use Rattle.proof_trees.specs.Starters.{BeginsAt}
use Rattle.ask_core.specs.Askers.{Begins}
use Rattle.ot_terms.specs.Goals.{goal_tree}
use Rattle.ot_terms.specs.Standing.{ask_goal}
use Rattle.start_laws.specs.Marking.{marked_goal}
use Rattle.ot_starts.specs.Nodes.{IsStop}
use Rattle.ot_starts.specs.Turns.{TurnsAs}
use Rattle.ot_starts.proofs.Turns.{begins_plain}
use Rattle.ot_starts.proofs.asker.StartAsker.walked.Goals as goal

pub turn-requires : goal.turn-requires
turn-requires c = (c.args.self.now.ob, c.requires.node.goal)

pub returns-clause-marked : goal.returns-clause-marked
returns-clause-marked c =
    let f = function_of c.args.self.now.laid in
    let ob = c.args.self.now.ob in
    let g = goal_tree c.args.node.now in
    IfOk-weaker c.turn.result (TurnsAs f g)
    (λ t. BeginsAt (λ n. IsStop f ob (goal_tree n.now)) (λ n. marked_goal f (goal_tree n.now)) t (marked_goal f g))
    (λ t turns. turns ob (marked_goal f g) c.requires.node refl) c.turn.ensures.turns

pub returns-clause-plain : goal.returns-clause-plain
returns-clause-plain c =
    let f = function_of c.args.self.now.laid in
    let ob = c.args.self.now.ob in
    let g = goal_tree c.args.node.now in
    IfOk-weaker c.turn.result
    (λ t. BeginsAt (λ n. IsStop f ob (goal_tree n.now)) (λ n. marked_goal f (goal_tree n.now)) t (marked_goal f g))
    (λ t. Begins (λ n. IsStop f ob (goal_tree n.now)) (λ n. ask_goal f (goal_tree n.now)) t (ask_goal f g))
    (λ t. begins_plain f (λ n. IsStop f ob (goal_tree n.now)) t g) (returns-clause-marked c)
