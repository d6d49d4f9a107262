use Rattle.std.proofs.Common.{refl, ap, sym, subst, ◌∙◌}
use Rattle.std.proofs.lemmas.Result.{IfOk-weaker}
use Rattle.fn_rules.specs.Rules.{function_of}
use Rattle.ot_terms.specs.Cells.{cell_tree}
use Rattle.ot_terms.specs.Goals.{Same}
use Rattle.ot_rewrite.specs.Steps.{front_tree}
use Rattle.ot_paths.specs.Sharing.{StandsAlike}
use Rattle.ot_paths.proofs.LaidCells.{ends_step}
use Rattle.ot_paths.proofs.LaidGoals.{alike_same, alike_step, laid_by_form, leads_by_step}
use Rattle.ot_paths.proofs.cells.by_ends.Goals as goal

-- two cells of names are compared by a form
pub returns-in-If : goal.returns-in-If
returns-in-If c =
    let rule = ends_step _ _ c.rules_are_valid.ensures _ _ c.requires.goal.1 c.requires.left_read _ _
    c.requires.right_read (sym c.finished.ensures ∙ c.in-Some.is) (sym c.finished-2.ensures ∙ c.in-Some-finished.is) in
    laid_by_form _ _ _ c.requires.goal.1 _ _ _
    (leads_by_step _ _ _ _ rule (sym c.in_ok-front.ensures ∙ ap front_tree c.in-If.is)) _ _ c.by_form.result
    (alike_same _ _ _ refl) (alike_same _ _ _ refl) c.by_form.ensures

pub returns-in_default-2 : goal.returns-in_default-2
returns-in_default-2 c =
    let alike = StandsAlike (function_of c.args.rules.now) (Same (cell_tree c.args.left) (cell_tree c.args.right)) in
    let rule = ends_step _ _ c.rules_are_valid.ensures _ _ c.requires.goal.1 c.requires.left_read _ _
    c.requires.right_read (sym c.finished.ensures ∙ c.in-Some.is) (sym c.finished-2.ensures ∙ c.in-Some-finished.is) in
    IfOk-weaker c.placed-in_default-2.result _ _
    (λ r is. subst alike (sym (is ∙ c.in_ok-front.ensures)) (alike_step _ _ _ rule)) c.placed-in_default-2.ensures
