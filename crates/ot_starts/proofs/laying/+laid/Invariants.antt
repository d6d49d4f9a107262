use Rattle.std.proofs.Common.{◌+◌, ◌*◌, Some}
use Rattle.fn_rules.specs.Rules.{function_of}
use Rattle.ot_terms.specs.Forms.{form_tree}
use Rattle.ot_terms.specs.Goals.{goal_tree, Choose, If}
use Rattle.ot_terms.specs.Weights.{goal_weight}
use Rattle.ot_rewrite.specs.Steps.{trial_tree}
use Rattle.ot_starts.proofs.laying.+laid.Given as goal

abbrev pub decreases-laid : goal.decreases-laid
decreases-laid l = 4 + 4 * goal_weight (function_of l.rules.now) (goal_tree l.goal.now)

abbrev pub decreases-form_laid : goal.decreases-form_laid
decreases-form_laid l =
    3 + 4 * goal_weight (function_of l.rules.now) (If (form_tree l.form.now) (goal_tree l.yes.now) (goal_tree l.no.now))

abbrev pub decreases-tried_laid : goal.decreases-tried_laid
decreases-tried_laid l =
    3 + 4 * goal_weight (function_of l.rules.now) (trial_tree l.ops.now.a l.ops.now.b (Some l.tried.now))

abbrev pub decreases-cases_laid : goal.decreases-cases_laid
decreases-cases_laid l =
    3 + 4 * goal_weight (function_of l.rules.now) (Choose l.case l.ops.now.a l.ops.now.b l.plan.now)

abbrev pub decreases-end_laid : goal.decreases-end_laid
decreases-end_laid l = 3 + 4 * goal_weight (function_of l.rules.now) (goal_tree l.goal.now)

abbrev pub decreases-end_built : goal.decreases-end_built
decreases-end_built l = 2 + 4 * goal_weight (function_of l.rules.now) (goal_tree l.goal.now)

abbrev pub decreases-next_laid : goal.decreases-next_laid
decreases-next_laid l = 2 + 4 * goal_weight (function_of l.rules.now) (goal_tree l.goal.now)

abbrev pub decreases-behind_laid : goal.decreases-behind_laid
decreases-behind_laid l = 1 + 4 * goal_weight (function_of l.rules.now) (goal_tree l.goal.now)
