use Rattle.std.proofs.lemmas.Result.{IfOk-weaker}
use Rattle.fn_rules.specs.Rules.{function_of}
use Rattle.ot_terms.specs.Goals.{goal_tree}
use Rattle.ot_starts.specs.Turns.{TurnsAs}
use Rattle.ot_starts.proofs.Turns.{turns_behind}
use Rattle.ot_starts.proofs.walking.turn_on.Goals as goal

pub turn_behind-requires : goal.turn_behind-requires
turn_behind-requires c = (c.requires.goal.0, c.in_ok-near.ensures.opens.belongs c.requires.goal.0 c.requires.goal.1)

pub returns-clause-turns : goal.returns-clause-turns
returns-clause-turns c =
    let f = function_of c.args.rules.now in
    let old = goal_tree c.args.goal.now in
    let near = goal_tree c.in_ok-near.near.now in
    IfOk-weaker c.turn_behind.result (TurnsAs f near) (TurnsAs f old)
    (turns_behind f old near c.in_ok-near.ensures.opens) c.turn_behind.ensures

pub returns-clause-starts : goal.returns-clause-starts
returns-clause-starts c = c.laid_on.ensures.starts

pub returns-clause-ends : goal.returns-clause-ends
returns-clause-ends c = c.laid_on.ensures.ends
