-- Rules one after the other, and what they keep.
use Rattle.std.proofs.Common.{◌≡◌, ℕ, zero, suc, ◌<◌, ◌≤◌, Option, Some, None, IsTrue, refl, ◌∙◌, subst, arith}
use Rattle.std.specs.Option.{option_and_then}
use Rattle.fn_rules.specs.declared.function.ObName.{ObName}
use Rattle.fn_rules.specs.Functions.{Function}
use Rattle.fn_rules.specs.Validity.{is_valid}
use Rattle.ot_terms.specs.Goals.{GoalTree}
use Rattle.ot_terms.specs.Standing.{ask_goal}
use Rattle.ot_terms.specs.Weights.{goal_weight}
use Rattle.ot_terms.specs.Belonging.{IsGoalOf}
use Rattle.ot_rewrite.specs.Table.{rewritten}
use Rattle.ot_rewrite.specs.Reaching.{after_rules, Reaches}
use Rattle.ot_rewrite.proofs.RulesKept.{rule_kept, rule_belongs}

module _ (f : Function) where
  pub reaches_itself : (g : GoalTree) → Reaches f g g
  reaches_itself g = record { rules = zero; reached = refl }

  pub rule_before : (g h i : GoalTree) → rewritten f g ≡ Some h → Reaches f h i → Reaches f g i
  rule_before g h i e r = record { rules = suc r.rules; reached = rw e r.reached }

  -- a rule, and then what the others give
  by_first :
      (g h i : GoalTree) (o : Option GoalTree) → rewritten f g ≡ o → (others : GoalTree → Option GoalTree)
      → ((k : GoalTree) → others k ≡ Some h → Reaches f k i) → option_and_then others o ≡ Some h → Reaches f g i
  by_first g h i None e others go given = absurd (cc)
  by_first g h i (Some k) e others go given = rule_before g k i e (go k given)

  after : (n : ℕ) (g h i : GoalTree) → after_rules f n g ≡ Some h → Reaches f h i → Reaches f g i
  after zero g h i e r = let same : h ≡ g = cc in subst (λ t. Reaches f t i) same r
  after (suc n) g h i e r =
      by_first g h i (rewritten f g) refl (after_rules f n) (λ k given. after n k h i given r) e

  pub reaches_on : (g h i : GoalTree) → Reaches f g h → Reaches f h i → Reaches f g i
  reaches_on g h i r s = after r.rules g h i r.reached s

  pub rule_behind : (g h i : GoalTree) → Reaches f g h → rewritten f h ≡ Some i → Reaches f g i
  rule_behind g h i r e = reaches_on g h i r (rule_before h i i e (reaches_itself i))

-- what stays when rules lead from the old goal to the new one
pub record IsKept (f : Function) (ob : ObName) (old new : GoalTree) : Type 0 where
  pub asked : ask_goal f new ≡ ask_goal f old
  pub belongs : IsGoalOf f ob new
  pub lighter : goal_weight f new ≤ goal_weight f old

module _ (f : Function) (ob : ObName) (valid : IsTrue (is_valid f)) where
  -- what a first rule and the others keep, both keep one after the other
  kept_by_first :
      (g h : GoalTree) (o : Option GoalTree) → IsGoalOf f ob g → rewritten f g ≡ o
      → (others : GoalTree → Option GoalTree)
      → ((k : GoalTree) → IsGoalOf f ob k → others k ≡ Some h → IsKept f ob k h) → option_and_then others o ≡ Some h
      → IsKept f ob g h
  kept_by_first g h None is_goal e others go given = absurd (cc)
  kept_by_first g h (Some k) is_goal e others go given =
      let rule = rule_kept f ob g k valid is_goal e in
      let rest : IsKept f ob k h = go k (rule_belongs f ob g k valid is_goal e) given in
      let falls : goal_weight f k < goal_weight f g = rule.lighter in
      let low : goal_weight f h ≤ goal_weight f k = rest.lighter in
      record { asked = rest.asked ∙ rule.asked; belongs = rest.belongs; lighter = omega arith }

  kept_after : (n : ℕ) (g h : GoalTree) → IsGoalOf f ob g → after_rules f n g ≡ Some h → IsKept f ob g h
  kept_after zero g h is_goal e =
      let same : g ≡ h = cc in
      subst (IsKept f ob g) same (record { asked = refl; belongs = is_goal; lighter = omega arith })
  kept_after (suc n) g h is_goal e =
      kept_by_first g h (rewritten f g) is_goal refl (after_rules f n) (λ k of k_given. kept_after n k h of k_given) e

  pub reached_kept : (g h : GoalTree) → IsGoalOf f ob g → Reaches f g h → IsKept f ob g h
  reached_kept g h is_goal r = kept_after r.rules g h is_goal r.reached
