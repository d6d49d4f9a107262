use Rattle.std.proofs.Common.{◌+◌, ◌*◌}
use Rattle.fn_rules.specs.Rules.{function_of}
use Rattle.ot_terms.specs.Forms.{form_tree}
use Rattle.ot_terms.specs.Goals.{goal_tree, Choose, Deliver, If}
use Rattle.ot_terms.specs.Weights.{goal_weight}
use Rattle.ot_rewrite.specs.Steps.{front_tree}
use Rattle.ot_paths.proofs.laying.+laid.Given as goal

abbrev pub decreases-laid : goal.decreases-laid
decreases-laid l = 3 + 4 * goal_weight (function_of l.rules.now) (goal_tree l.goal.now)

abbrev pub decreases-form_laid : goal.decreases-form_laid
decreases-form_laid l =
    2 + 4 * goal_weight (function_of l.rules.now) (If (form_tree l.form.now) (goal_tree l.yes.now) (goal_tree l.no.now))

abbrev pub decreases-cases_laid : goal.decreases-cases_laid
decreases-cases_laid l =
    2 + 4 * goal_weight (function_of l.rules.now) (Choose l.case l.ops.now.a l.ops.now.b l.progress.now)

abbrev pub decreases-rest_laid : goal.decreases-rest_laid
decreases-rest_laid l = 2 + 4 * goal_weight (function_of l.rules.now) (Deliver l.op l.progress.now)

abbrev pub decreases-behind_laid : goal.decreases-behind_laid
decreases-behind_laid l = 1 + 4 * goal_weight (function_of l.rules.now) (Deliver l.op l.progress.now)

abbrev pub decreases-next_laid : goal.decreases-next_laid
decreases-next_laid l = 4 * goal_weight (function_of l.rules.now) (front_tree l.front)
