use Rattle.std.proofs.Common.{rules, refl, sym}
use Rattle.ot_paths.proofs.LaidCells.{right_parted_step, right_readable, right_step}
use Rattle.ot_paths.proofs.LaidGoals.{behind_step, form_low, laid_behind, laid_by_form, leads_same, no_behind}
use Rattle.ot_paths.proofs.LaidGoals.{yes_behind}
use Rattle.ot_paths.proofs.cells.+by_right.Goals as goal

pub by_right-read_step-requires : goal.by_right-read_step-requires
by_right-read_step-requires t c = right_readable _ _ c.rules_are_valid.ensures _ _ c.requires.goal.1

-- the comparison with a cell that is read further is lighter, and of the obligation
pub by_right-by_right-requires : goal.by_right-by_right-requires
by_right-by_right-requires t c =
    let is_read = sym (rw c.in-Some.is at c.in_ok-read.ensures) in
    let next = behind_step _ _ _ _ c.requires.goal.1
    (right_step _ _ c.rules_are_valid.ensures _ _ c.requires.goal.1 c.requires.read _ is_read) in
    (search (rules, next.lighter), (next.goal, c.requires.read))

pub by_right-returns-in-Some : goal.by_right-returns-in-Some
by_right-returns-in-Some t c =
    let is_read = sym (rw c.in-Some.is at c.in_ok-read.ensures) in
    laid_behind _ _ _ c.by_right.result
    (right_step _ _ c.rules_are_valid.ensures _ _ c.requires.goal.1 c.requires.read _ is_read) c.by_right.ensures

-- a question comes before the cell
pub by_right-right_parted-requires : goal.by_right-right_parted-requires
by_right-right_parted-requires t c =
    let rule = right_parted_step _ _ c.rules_are_valid.ensures _ _ c.requires.goal.1 c.requires.read _ _ _
    c.in-Some-parts.ensures in
    let next = behind_step _ _ _ _ c.requires.goal.1 rule in
    (search (rules, next.lighter), (next.goal, c.requires.read))

pub by_right-returns : goal.by_right-returns
by_right-returns t c =
    laid_behind _ _ _ c.right_parted.result
    (right_parted_step _ _ c.rules_are_valid.ensures _ _ c.requires.goal.1 c.requires.read _ _ _
    c.in-Some-parts.ensures) c.right_parted.ensures

-- two comparisons by a form
pub right_parted-by_right-requires : goal.right_parted-by_right-requires
right_parted-by_right-requires t c =
    let no = no_behind _ _ _ c.requires.goal.1 _ _ _ (leads_same _ _ _ refl) in
    (search (rules, no.lighter), (no.goal, c.requires.read))

pub right_parted-by_right-requires-2 : goal.right_parted-by_right-requires-2
right_parted-by_right-requires-2 t c =
    let yes = yes_behind _ _ _ c.requires.goal.1 _ _ _ (leads_same _ _ _ refl) in
    (search (rules, yes.lighter), (yes.goal, c.requires.read))

pub right_parted-by_form-requires : goal.right_parted-by_form-requires
right_parted-by_form-requires t c = form_low _ _ _ c.requires.goal.1 _ _ _ (leads_same _ _ _ refl)

pub right_parted-returns : goal.right_parted-returns
right_parted-returns t c =
    laid_by_form _ _ _ c.requires.goal.1 _ _ _ (leads_same _ _ _ refl) _ _ c.by_form.result c.in_ok-on_yes.ensures
    c.in_ok-on_no.ensures c.by_form.ensures
