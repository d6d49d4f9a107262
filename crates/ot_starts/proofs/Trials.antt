-- What is known of a case that is tried.
use Rattle.std.proofs.Common.{◌≡◌, ◌<◌, ◌||◌, Option, Some, None, IfSome, Bool, false, is_some, ap, sym, subst, ◌∙◌}
use Rattle.fn_rules.specs.declared.function.ObName.{ObName}
use Rattle.fn_rules.specs.Functions.{Function}
use Rattle.ot_questions.specs.declared.place.SymOp.{SymOp}
use Rattle.ot_terms.specs.Belonging.{IsGoalOf}
use Rattle.ot_terms.specs.Goals.{GoalTree}
use Rattle.ot_terms.specs.Weights.{goal_weight}
use Rattle.ot_rewrite.specs.declared.choosing.Trial.{Trial}
use Rattle.ot_rewrite.specs.Steps.{trial_tree}
use Rattle.ot_rewrite.specs.Table.{rewritten}
use Rattle.ot_paths.specs.Trials as laid
use Rattle.ot_rewrite.specs.Fronts.{is_at_front}
use Rattle.start_laws.specs.Marking.{marked_goal}
use Rattle.start_laws.specs.Settled.{front_start, is_begun, is_settled}
use Rattle.ot_starts.specs.Trials.{IsTrialOf}

-- no transformation begins at the goal
pub not_begun_there :
    (test : Bool) (old was : GoalTree) → old ≡ was → test ≡ is_some (front_start old) → test ≡ false
    → ((g : GoalTree) → is_begun g ≡ is_some (front_start g)) → is_begun was ≡ false
not_begun_there test old was same tests denied law =
    subst (λ g. is_begun g ≡ false) same (law old ∙ sym tests ∙ denied)

-- nor is it settled, where a rule fits
pub open_there :
    (test : Bool) (old was : GoalTree) → old ≡ was → is_at_front was ≡ false → test ≡ is_some (front_start old)
    → test ≡ false → ((g : GoalTree) → is_begun g ≡ is_some (front_start g)) → is_settled old ≡ false
open_there test old was same asks tests denied law =
    ap (λ begun. begun || is_at_front old) (law old ∙ sym tests ∙ denied)
    ∙ subst (λ g. is_at_front g ≡ false) (sym same) asks

-- what is tried stands for the goal with its starts
pub trials :
    (f : Function) (old : GoalTree) (a b : SymOp)
    → ((g : GoalTree) → rewritten f old ≡ Some g → marked_goal f g ≡ marked_goal f old)
    → ((other : ObName) (g : GoalTree) → IsGoalOf f other old → rewritten f old ≡ Some g → IsGoalOf f other g)
    → ((g : GoalTree) → rewritten f old ≡ Some g → goal_weight f g < goal_weight f old)
    → (r : Option Trial) → IfSome r (laid.IsTrialOf f old a b) → IfSome r (IsTrialOf f old a b)
trials f old a b marks stays falls None is = tt
trials f old a b marks stays falls (Some t) is = record {
  stands = record {
    marked = marks (trial_tree a b (Some t)) is.rule;
    belongs = λ other is_goal. stays other (trial_tree a b (Some t)) is_goal is.rule;
  };
  lighter = falls (trial_tree a b (Some t)) is.rule;
  atoms_near = is.atoms_near;
  a_near = is.a_near;
  b_near = is.b_near;
}
