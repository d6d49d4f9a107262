use Rattle.std.proofs.Common.{◌∙◌, ap, sym, subst}
use Rattle.std.proofs.lemmas.Result.{IfOk-weaker}
use Rattle.fn_rules.specs.Rules.{function_of}
use Rattle.ot_terms.specs.Belonging.{IsGoalOf}
use Rattle.ot_terms.specs.Standing.{ask_goal}
use Rattle.ot_paths.proofs.Questions.{node_start}
use Rattle.ot_paths.proofs.asker.laid_obligation.Goals as goal

pub returns-clause-plan : goal.returns-clause-plan
returns-clause-plan c =
    let f = function_of c.args.rules.now in
    let planned = ap (ask_goal f) c.in_ok-start.ensures
    ∙ c.first_goals_stand_for_obligations.ensures.plan f c.args.ob in
    IfOk-weaker c.laid_out.result _ _ (λ r alike. alike.asked ∙ planned) c.laid_out.ensures.alike

pub returns-clause-node : goal.returns-clause-node
returns-clause-node c =
    let f = function_of c.args.rules.now in
    let planned = ap (ask_goal f) c.in_ok-start.ensures
    ∙ c.first_goals_stand_for_obligations.ensures.plan f c.args.ob in
    let is_goal = subst (IsGoalOf f c.args.ob) (sym c.in_ok-start.ensures)
    (c.first_goals_stand_for_obligations.ensures.belongs f c.args.ob c.requires) in
    IfOk-weaker c.laid_out.result _ _
    (λ r alike. node_start _ _ _ (alike.belongs _ is_goal) (alike.asked ∙ planned)
    (c.plans_keep_limits.ensures.fine _ _ c.rules_are_valid.ensures)) c.laid_out.ensures.alike
