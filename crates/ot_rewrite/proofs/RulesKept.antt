-- What each rule of the table keeps.
use Rattle.std.proofs.Common.{◌≡◌, Some, IsTrue}
use Rattle.fn_rules.specs.declared.function.ObName.{ObName}
use Rattle.fn_rules.specs.Functions.{Function}
use Rattle.fn_rules.specs.Validity.{is_valid}
use Rattle.ot_terms.specs.Goals.{GoalTree, Holds, Fails, If, Choose, Deliver, Same}
use Rattle.ot_terms.specs.Belonging.{IsGoalOf}
use Rattle.ot_rewrite.specs.Table.{rewrite_choose, rewrite_deliver, rewritten}
use Rattle.ot_rewrite.proofs.Rewritings.{IsRewriting}
use Rattle.ot_rewrite.proofs.ChosenRules.{choose_rule}
use Rattle.ot_rewrite.proofs.DeliveredParts.{deliver_rule}
use Rattle.ot_rewrite.proofs.FormRules.{given, form_rule}
use Rattle.ot_rewrite.proofs.SameRules.{same_rule}

module _ (f : Function) (ob : ObName) where
  -- each rule keeps what is asked and the parts of the goal, which it makes lighter
  pub rule_kept :
      (g h : GoalTree) → IsTrue (is_valid f) → IsGoalOf f ob g → rewritten f g ≡ Some h → IsRewriting f ob g h
  unfolding rewritten
  rule_kept Holds h valid is_goal e = absurd (cc)
  rule_kept (Fails why) h valid is_goal e = absurd (cc)
  rule_kept (If g on_yes on_no) h valid is_goal e = form_rule f ob on_yes on_no g h e
  rule_kept (Choose case a b plan) h valid is_goal e =
      given f ob (Choose case a b plan) (rewrite_choose f case a b plan) h e
      (choose_rule f ob case a b plan valid is_goal.declared)
  rule_kept (Deliver r plan) h valid is_goal e =
      given f ob (Deliver r plan) (rewrite_deliver f r plan) h e
      (deliver_rule f ob r plan is_goal.declared is_goal.parts)
  rule_kept (Same left right) h valid is_goal e = same_rule f ob left right h e is_goal.parts

  -- the new goal is of the function and the obligation as the old one is
  pub rule_belongs : (g h : GoalTree) → IsTrue (is_valid f) → IsGoalOf f ob g → rewritten f g ≡ Some h → IsGoalOf f ob h
  rule_belongs g h valid is_goal e =
      record { declared = is_goal.declared; parts = (rule_kept g h valid is_goal e).parts is_goal.parts }
