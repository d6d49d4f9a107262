use Rattle.std.proofs.Common.{◌≡◌, ◌↔◌, ◌≤◌, ℕ, ℤ, IsTrue}
use Rattle.fn_rules.specs.declared.function.ObName.{ObName}
use Rattle.fn_rules.specs.Rules.{function_of}
use Rattle.ot_terms.specs.Belonging.{IsGoalOf}
use Rattle.ot_terms.specs.Goals.{goal_tree}
use Rattle.ot_terms.specs.Standing.{ask_goal}
use Rattle.ot_terms.specs.Truth.{goal_holds}
use Rattle.ot_terms.specs.Weights.{goal_weight}
use Rattle.ot_rewrite.specs.Fronts.{is_at_front}
use Rattle.ot_rewrite.specs.Reaching.{Reaches}
use Rattle.ot_rewrite.proofs.Fronted.{placed_keeps}
use Rattle.ot_rewrite.proofs.simplifying.simplify.Goals as goal

pub returns-clause-reached : goal.returns-clause-reached
returns-clause-reached c =
    placed_keeps (Reaches (function_of c.args.rules.now) (goal_tree c.args.goal.now)) _ c.placed.result
    c.in_ok-front_of.ensures.reached c.placed.ensures

pub returns-clause-at_front : goal.returns-clause-at_front
returns-clause-at_front c =
    placed_keeps (λ g. IsTrue (is_at_front g)) _ c.placed.result c.in_ok-front_of.ensures.at_front c.placed.ensures

pub returns-clause-asks : goal.returns-clause-asks
returns-clause-asks c =
    let f = function_of c.args.rules.now in
    placed_keeps (λ g. ask_goal f g ≡ ask_goal f (goal_tree c.args.goal.now)) _ c.placed.result
    c.in_ok-front_of.ensures.asks c.placed.ensures

pub returns-clause-truth : goal.returns-clause-truth
returns-clause-truth c =
    let f = function_of c.args.rules.now in
    placed_keeps (λ g. (v : ℕ → ℤ) → goal_holds f v g ↔ goal_holds f v (goal_tree c.args.goal.now)) _ c.placed.result
    c.in_ok-front_of.ensures.truth c.placed.ensures

pub returns-clause-belongs : goal.returns-clause-belongs
returns-clause-belongs c =
    let f = function_of c.args.rules.now in
    placed_keeps (λ g. (ob : ObName) → IsGoalOf f ob (goal_tree c.args.goal.now) → IsGoalOf f ob g) _ c.placed.result
    c.in_ok-front_of.ensures.belongs c.placed.ensures

pub returns-clause-weighs : goal.returns-clause-weighs
returns-clause-weighs c =
    let f = function_of c.args.rules.now in
    placed_keeps (λ g. goal_weight f g ≤ goal_weight f (goal_tree c.args.goal.now)) _ c.placed.result
    c.in_ok-front_of.ensures.weighs c.placed.ensures
