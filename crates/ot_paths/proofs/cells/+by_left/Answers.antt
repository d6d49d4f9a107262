use Rattle.std.proofs.Common.{rules, refl, sym}
use Rattle.ot_paths.proofs.LaidCells.{left_parted_step, left_readable, left_step}
use Rattle.ot_paths.proofs.LaidGoals.{behind_step, form_low, laid_behind, laid_by_form, leads_same, no_behind}
use Rattle.ot_paths.proofs.LaidGoals.{yes_behind}
use Rattle.ot_paths.proofs.cells.+by_left.Goals as goal

pub by_left-read_step-requires : goal.by_left-read_step-requires
by_left-read_step-requires t c = left_readable _ _ c.rules_are_valid.ensures _ _ c.requires.goal.1

-- the comparison of a cell that is read further is lighter, and of the obligation
pub by_left-by_left-requires : goal.by_left-by_left-requires
by_left-by_left-requires t c =
    let is_read = sym (rw c.in-Some.is at c.in_ok-read.ensures) in
    let next = behind_step _ _ _ _ c.requires.goal.1
    (left_step _ _ c.rules_are_valid.ensures _ _ c.requires.goal.1 _ is_read) in
    (search (rules, next.lighter), (next.goal, c.requires.known))

pub by_left-returns-in-Some-clause-alike : goal.by_left-returns-in-Some-clause-alike
by_left-returns-in-Some-clause-alike t c =
    let is_read = sym (rw c.in-Some.is at c.in_ok-read.ensures) in
    laid_behind _ _ _ c.by_left.result (left_step _ _ c.rules_are_valid.ensures _ _ c.requires.goal.1 _ is_read)
    c.by_left.ensures.alike

-- a question comes before the cell
pub by_left-left_parted-requires : goal.by_left-left_parted-requires
by_left-left_parted-requires t c =
    let rule = left_parted_step _ _ c.rules_are_valid.ensures _ _ c.requires.goal.1 _ _ _ c.in-Some-parts.ensures in
    let next = behind_step _ _ _ _ c.requires.goal.1 rule in
    (search (rules, next.lighter), (next.goal, c.requires.known))

pub by_left-returns-clause-alike : goal.by_left-returns-clause-alike
by_left-returns-clause-alike t c =
    laid_behind _ _ _ c.left_parted.result
    (left_parted_step _ _ c.rules_are_valid.ensures _ _ c.requires.goal.1 _ _ _ c.in-Some-parts.ensures)
    c.left_parted.ensures.alike

-- two comparisons by a form
pub left_parted-by_left-requires : goal.left_parted-by_left-requires
left_parted-by_left-requires t c =
    let no = no_behind _ _ _ c.requires.goal.1 _ _ _ (leads_same _ _ _ refl) in
    (search (rules, no.lighter), (no.goal, c.requires.known))

pub left_parted-by_left-requires-2 : goal.left_parted-by_left-requires-2
left_parted-by_left-requires-2 t c =
    let yes = yes_behind _ _ _ c.requires.goal.1 _ _ _ (leads_same _ _ _ refl) in
    (search (rules, yes.lighter), (yes.goal, c.in_ok-on_no.ensures.known))

pub left_parted-by_form-requires : goal.left_parted-by_form-requires
left_parted-by_form-requires t c = form_low _ _ _ c.requires.goal.1 _ _ _ (leads_same _ _ _ refl)

pub left_parted-returns-clause-alike : goal.left_parted-returns-clause-alike
left_parted-returns-clause-alike t c =
    laid_by_form _ _ _ c.requires.goal.1 _ _ _ (leads_same _ _ _ refl) _ _ c.by_form.result c.in_ok-on_yes.ensures.alike
    c.in_ok-on_no.ensures.alike c.by_form.ensures
