use Rattle.std.proofs.Common.{◌≡◌, ◌∙◌, IsTrue, ap, sym, subst}
use Rattle.std.proofs.lemmas.Result.{IfOk-weaker}
use Rattle.fn_rules.specs.Rules.{function_of}
use Rattle.ot_terms.specs.Belonging.{IsGoalOf}
use Rattle.ot_terms.specs.Goals.{goal_tree}
use Rattle.ot_terms.specs.Standing.{ask_goal}
use Rattle.ot_questions.specs.Obligation.{plan_of}
use Rattle.start_laws.specs.Marking.{marked_goal, marked_plan}
use Rattle.start_laws.specs.Settled.{is_settled, StandsMarked}
use Rattle.ot_starts.specs.Nodes.{IsStop}
use Rattle.ot_starts.proofs.SettledGoals.{of_both}
use Rattle.ot_starts.proofs.Turns.{first_is_stop, alike_asks}
use Rattle.ot_starts.proofs.settling.first_stop.Goals as goal

pub settled-requires : goal.settled-requires
settled-requires c = (
  c.args.ob,
  subst (IsGoalOf (function_of c.args.rules.now) c.args.ob) (sym c.in_ok-start.ensures)
      (c.first_goals_stand_for_obligations.ensures.belongs (function_of c.args.rules.now) c.args.ob c.requires),
)

pub returns-clause-plan : goal.returns-clause-plan
returns-clause-plan c =
    let f = function_of c.args.rules.now in
    let start = goal_tree c.in_ok-start.start.now in
    IfOk-weaker c.settled.result (λ r. StandsMarked f start (goal_tree r.now))
    (λ r. ask_goal f (goal_tree r.now) ≡ plan_of f c.args.ob)
    (λ r alike. alike_asks f start (goal_tree r.now) alike ∙ ap (ask_goal f) c.in_ok-start.ensures
    ∙ c.first_goals_stand_for_obligations.ensures.plan f c.args.ob) c.settled.ensures.alike

pub returns-clause-marked : goal.returns-clause-marked
returns-clause-marked c =
    let f = function_of c.args.rules.now in
    IfOk-weaker c.settled.result (λ r. StandsMarked f (goal_tree c.in_ok-start.start.now) (goal_tree r.now))
    (λ r. marked_goal f (goal_tree r.now) ≡ marked_plan f c.args.ob)
    (λ r alike. alike.marked ∙ ap (marked_goal f) c.in_ok-start.ensures) c.settled.ensures.alike

pub returns-clause-stop : goal.returns-clause-stop
returns-clause-stop c =
    let f = function_of c.args.rules.now in
    let start = goal_tree c.in_ok-start.start.now in
    of_both c.settled.result (λ r. StandsMarked f start (goal_tree r.now)) (λ r. IsTrue (is_settled (goal_tree r.now)))
    (λ r. IsStop f c.args.ob (goal_tree r.now))
    (λ r. first_is_stop f c.args.ob start (goal_tree r.now)
    (subst (IsGoalOf f c.args.ob) (sym c.in_ok-start.ensures)
    (c.first_goals_stand_for_obligations.ensures.belongs f c.args.ob c.requires))
    (ap (ask_goal f) c.in_ok-start.ensures ∙ c.first_goals_stand_for_obligations.ensures.plan f c.args.ob)
    (c.plans_keep_limits.ensures.fine _ _ c.rules_are_valid.ensures))
    c.settled.ensures.alike c.settled.ensures.settled
