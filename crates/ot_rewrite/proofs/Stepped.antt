-- What a step of one rule gives: the next goal, or that none fits.
use Rattle.std.proofs.Common.{◌≡◌, IsTrue, Option, Some, None, MatchOption, option_map, refl, sym, ◌∙◌}
use Rattle.fn_rules.specs.declared.function.ObName.{ObName}
use Rattle.fn_rules.specs.Functions.{Function}
use Rattle.fn_rules.specs.Validity.{is_valid}
use Rattle.ot_terms.specs.Goals.{GoalTree}
use Rattle.ot_terms.specs.Belonging.{IsGoalOf}
use Rattle.ot_terms.proofs.GoalTruth.{goal_holds_alike}
use Rattle.ot_rewrite.specs.Fronts.{is_at_front}
use Rattle.ot_rewrite.specs.Reaching.{IsStep}
use Rattle.ot_rewrite.specs.Table.{rewritten}
use Rattle.ot_rewrite.proofs.FrontLaws.{goal_stops}
use Rattle.ot_rewrite.proofs.RulesKept.{rule_kept, rule_belongs}

module _ (f : Function) (ob : ObName) (valid : IsTrue (is_valid f)) (old : GoalTree) (is_goal : IsGoalOf f ob old) where
  pub rule_steps : (new : GoalTree) → rewritten f old ≡ Some new → IsStep f old new
  rule_steps new e =
      let kept = rule_kept f ob old new valid is_goal e in
      record {
        asked = kept.asked;
        truth = λ v. goal_holds_alike f ob new old v (rule_belongs f ob old new valid is_goal e) is_goal kept.asked;
        belongs = λ other is_other. rule_belongs f other old new valid is_other e;
        lighter = kept.lighter;
      }

  -- the next goal, seen as a tree, or none
  pub step_kept :
      {X : Type 0} (tree : X → GoalTree) (o : Option X) → option_map tree o ≡ rewritten f old
      → MatchOption o (IsTrue (is_at_front old)) (λ g. IsStep f old (tree g))
  step_kept tree None e = (goal_stops f old).0 (sym e)
  step_kept tree (Some g) e = rule_steps (tree g) (sym e)

  pub step_stops :
      {X : Type 0} (tree : X → GoalTree) (o : Option X) → option_map tree o ≡ rewritten f old
      → IsTrue (is_at_front old) → o ≡ None
  step_stops tree None e front = refl
  step_stops tree (Some g) e front =
      let none : rewritten f old ≡ None = (goal_stops f old).1 front in
      let contra : Some (tree g) ≡ None = e ∙ none in absurd (cc)
