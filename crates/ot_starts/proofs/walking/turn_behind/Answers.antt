use Rattle.std.proofs.lemmas.Result.{IfOk-weaker}
use Rattle.fn_rules.specs.Rules.{function_of}
use Rattle.ot_terms.specs.Goals.{goal_tree}
use Rattle.ot_rewrite.specs.Steps.{front_tree}
use Rattle.start_laws.specs.Settled.{OpensStart}
use Rattle.ot_starts.specs.Turns.{TurnsAs}
use Rattle.ot_starts.proofs.SettledGoals.{reached_opens}
use Rattle.ot_starts.proofs.Turns.{turns_behind}
use Rattle.ot_starts.proofs.walking.turn_behind.Goals as goal

pub turn_at-requires-clause-goal : goal.turn_at-requires-clause-goal
turn_at-requires-clause-goal c = (c.requires.0, c.in_ok-front.ensures.belongs c.requires.0 c.requires.1)

pub returns : goal.returns
returns c =
    let f = function_of c.args.rules.now in
    let old = goal_tree c.args.goal.now in
    let front = front_tree c.in_ok-front.front in
    let valid = c.rules_are_valid.ensures in
    let opens : OpensStart f old front = record {
      marked = reached_opens f c.requires.0
          (λ g h of e. c.rules_keep_starts.ensures.opened f c.requires.0 g h valid of e)
          (λ g h of e. c.rules_keep_what_is_asked.ensures.belongs f c.requires.0 g h valid of e)
          old front c.requires.1 c.in_ok-front.ensures.reached;
      belongs = c.in_ok-front.ensures.belongs;
    } in
    IfOk-weaker c.turn_at.result (TurnsAs f front) (TurnsAs f old) (turns_behind f old front opens) c.turn_at.ensures
