-- Comparisons of cells, rule by rule.
use Rattle.std.proofs.Common.{◌≡◌, false, IsTrue, Option, Some, refl, ap, ◌∙◌}
use Rattle.std.proofs.lemmas.Bool.{true≢false}
use Rattle.fn_rules.specs.declared.function.ObName.{ObName}
use Rattle.fn_rules.specs.Functions.{Function}
use Rattle.fn_rules.specs.Validity.{is_valid}
use Rattle.ot_questions.specs.declared.cell.Finished.{Finished}
use Rattle.ot_terms.specs.Belonging.{IsGoalOf}
use Rattle.ot_terms.specs.Cells as cells
use Rattle.ot_terms.specs.Cells.{CellTree}
use Rattle.ot_terms.specs.Forms.{FormTree}
use Rattle.ot_terms.specs.Goals.{GoalTree, If, Same}
use Rattle.cell_rules.specs.Cells.{read_step, finished_cell, IsReadable}
use Rattle.ot_rewrite.specs.Table.{rewritten, rewrite_left, rewrite_right, rewrite_same, parted, both_finished}
use Rattle.ot_rewrite.specs.Table.{same_finished}
use Rattle.ot_rewrite.specs.Reaching.{IsStep}
use Rattle.ot_rewrite.proofs.Ready.{ready}
use Rattle.ot_rewrite.proofs.Stepped.{rule_steps}
use Rattle.ot_paths.specs.Cells.{is_parted, IsRead}

-- where no question comes before a cell, it is finished
not_parted : (cell : CellTree) (go : CellTree → GoalTree) (o : Option GoalTree)
    → is_parted cell ≡ false → parted cell go o ≡ o
not_parted (cells.At d at) go o e = refl
not_parted (cells.Char ch) go o e = refl
not_parted (cells.Dead cell) go o e = refl
not_parted (cells.Over ch cell) go o e = refl
not_parted (cells.If g y n) go o e = absurd (true≢false e)

module _ (f : Function) (ob : ObName) (valid : IsTrue (is_valid f)) (left right : CellTree)
    (is_goal : IsGoalOf f ob (Same left right)) where
  -- a rule for the comparison is a step
  by_rule : (next : GoalTree) → rewritten f (Same left right) ≡ Some next → IsStep f (Same left right) next
  by_rule next e = rule_steps f ob valid (Same left right) is_goal next e

  pub left_readable : IsReadable left
  left_readable = (ready f ob (Same left right) is_goal).0

  pub right_readable : IsReadable right
  right_readable = (ready f ob (Same left right) is_goal).1

  pub left_step : (read : CellTree) → read_step left ≡ Some read → IsStep f (Same left right) (Same read right)
  unfolding rewritten
  left_step read e = by_rule (Same read right) (ap (rewrite_left left right) e)

  pub left_parted_step :
      (g : FormTree) (y n : CellTree) → left ≡ cells.If g y n
      → IsStep f (Same left right) (If g (Same y right) (Same n right))
  unfolding rewritten read_step
  left_parted_step g y n e = by_rule (If g (Same y right) (Same n right)) (ap (λ l. rewrite_same l right) e)

  module _ (left_read : IsRead left) where
    behind_left : rewritten f (Same left right) ≡ rewrite_right left right (read_step right)
    unfolding rewritten
    behind_left =
        ap (rewrite_left left right) left_read.0
        ∙ not_parted left (λ l. Same l right) (rewrite_right left right (read_step right)) left_read.1

    pub right_step : (read : CellTree) → read_step right ≡ Some read → IsStep f (Same left right) (Same left read)
    right_step read e = by_rule (Same left read) (behind_left ∙ ap (rewrite_right left right) e)

    pub right_parted_step :
        (g : FormTree) (y n : CellTree) → right ≡ cells.If g y n
        → IsStep f (Same left right) (If g (Same left y) (Same left n))
    unfolding read_step
    right_parted_step g y n e =
        by_rule (If g (Same left y) (Same left n)) (behind_left ∙ ap (λ r. rewrite_right left r (read_step r)) e)

    -- both cells are read
    pub ends_step :
        (x y : Finished) → IsRead right → finished_cell left ≡ Some x → finished_cell right ≡ Some y
        → IsStep f (Same left right) (same_finished x y)
    ends_step x y right_read is_left is_right =
        by_rule (same_finished x y)
        (behind_left
        ∙ ap (rewrite_right left right) right_read.0
        ∙ not_parted right (λ r. Same left r) (both_finished (finished_cell left) (finished_cell right)) right_read.1
        ∙ ap (λ o. both_finished o (finished_cell right)) is_left
        ∙ ap (both_finished (Some x)) is_right)
