use Rattle.fn_rules.specs.Rules.{function_of}
use Rattle.ot_terms.specs.Cells.{cell_tree}
use Rattle.ot_terms.specs.Forms.{form_tree}
use Rattle.ot_terms.specs.Goals.{If, Same}
use Rattle.ot_terms.specs.Weights.{goal_weight}
use Rattle.ot_paths.proofs.cells.+by_right.Given as goal

abbrev pub decreases-by_right : goal.decreases-by_right
decreases-by_right l = goal_weight (function_of l.rules.now) (Same (cell_tree l.left) (cell_tree l.right))

abbrev pub decreases-right_parted : goal.decreases-right_parted
decreases-right_parted l =
    goal_weight (function_of l.rules.now)
    (If (form_tree l.form.now) (Same (cell_tree l.left) (cell_tree l.yes.now))
    (Same (cell_tree l.left) (cell_tree l.no.now)))
