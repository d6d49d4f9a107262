-- What is known of a goal that is laid out, from what it leads to.
use Rattle.std.proofs.Common.{◌≡◌, ◌+◌, ◌*◌, ◌<◌, ◌≤◌, Result, IfOk, Bor, refl, ap, sym, subst, arith}
use Rattle.std.proofs.lemmas.Result.{IfOk-weaker}
use Rattle.fn_rules.specs.declared.function.ObName.{ObName}
use Rattle.fn_rules.specs.Functions.{Function}
use Rattle.ot_terms.specs.Belonging.{IsGoalOf}
use Rattle.ot_terms.specs.Forms.{FormTree}
use Rattle.ot_terms.specs.declared.goal.Goal.{Goal}
use Rattle.ot_terms.specs.Goals.{GoalTree, If, goal_tree, laid_form}
use Rattle.ot_terms.specs.Weights.{goal_weight}
use Rattle.ot_rewrite.specs.Reaching.{IsStep}
use Rattle.ot_rewrite.specs.Splits.{HasLowOffsets}
use Rattle.ot_paths.specs.Sharing.{StandsAlike}
use Rattle.ot_paths.proofs.LaidForms.{alike_on, alike_laid, low_offsets_of, part_of_yes, part_of_no, yes_is_lighter}
use Rattle.ot_paths.proofs.LaidForms.{no_is_lighter}

-- the new goal stands for the old one, and weighs no more
pub record LeadsTo (f : Function) (old new : GoalTree) : Type 0 where
  pub alike : StandsAlike f old new
  pub weighs : goal_weight f new ≤ goal_weight f old

pub alike_step : (f : Function) (old new : GoalTree) → IsStep f old new → StandsAlike f old new
alike_step f old new rule = record { asked = rule.asked; belongs = rule.belongs }

pub alike_same : (f : Function) (old new : GoalTree) → new ≡ old → StandsAlike f old new
alike_same f old new e = subst (StandsAlike f old) (sym e) (record { asked = refl; belongs = λ ob is_goal. is_goal })

pub leads_same : (f : Function) (old new : GoalTree) → new ≡ old → LeadsTo f old new
leads_same f old new e = record {
  alike = alike_same f old new e;
  weighs = (let same : goal_weight f new ≡ goal_weight f old = ap (goal_weight f) e in omega arith);
}

pub leads_by_step : (f : Function) (old next new : GoalTree) → IsStep f old next → next ≡ new → LeadsTo f old new
leads_by_step f old next new rule same =
    let falls : goal_weight f next < goal_weight f old = rule.lighter in
    subst (LeadsTo f old) same (record { alike = alike_step f old next rule; weighs = omega arith })

-- what is laid out behind a step stands for the goal before it
pub step_alike :
    (f : Function) (old next built : GoalTree) → IsStep f old next → StandsAlike f next built → StandsAlike f old built
step_alike f old next built rule h = alike_on f old next built (alike_step f old next rule) h

pub laid_behind :
    {E : Type 0} (f : Function) (old next : GoalTree) (r : Result (Bor Goal) E) → IsStep f old next
    → IfOk r (λ g. StandsAlike f next (goal_tree g.now)) → IfOk r (λ g. StandsAlike f old (goal_tree g.now))
laid_behind f old next r rule h =
    IfOk-weaker r (λ g. StandsAlike f next (goal_tree g.now)) (λ g. StandsAlike f old (goal_tree g.now))
    (λ g. step_alike f old next (goal_tree g.now) rule) h

-- what is known from now on is the goal that was laid out
pub laid_known :
    {E : Type 0} (f : Function) (old : GoalTree) (built : Goal) (r : Result (Bor Goal) E)
    → StandsAlike f old (goal_tree built)
    → IfOk r (λ g. g.now ≡ built) → IfOk r (λ g. StandsAlike f old (goal_tree g.now))
laid_known f old built r alike h =
    IfOk-weaker r (λ g. g.now ≡ built) (λ g. StandsAlike f old (goal_tree g.now))
    (λ g same. subst (λ t. StandsAlike f old (goal_tree t)) (sym same) alike) h

-- what is laid out of a goal behind a rule or a question: it is of the obligation, and lighter
pub record IsBehind (f : Function) (old next : GoalTree) : Type 0 where
  pub lighter : goal_weight f next < goal_weight f old
  pub goal : (ob : ObName) × IsGoalOf f ob next

pub behind_step : (f : Function) (ob : ObName) (old next : GoalTree) → IsGoalOf f ob old
    → IsStep f old next → IsBehind f old next
behind_step f ob old next is_goal rule = record { lighter = rule.lighter; goal = (ob, rule.belongs ob is_goal) }

-- the measures where functions of their own lay out the goal at its front, and that behind a rule
pub below_front :
    (f : Function) (old next : GoalTree) → IsBehind f old next
    → (3 + 4 * goal_weight f next < 2 + 4 * goal_weight f old) × ((ob : ObName) × IsGoalOf f ob next)
below_front f old next h = (omega (arith, h.lighter), h.goal)

pub below_rule :
    (f : Function) (old next : GoalTree) → IsBehind f old next
    → (3 + 4 * goal_weight f next < 4 * goal_weight f old) × ((ob : ObName) × IsGoalOf f ob next)
below_rule f old next h = (omega (arith, h.lighter), h.goal)

pub at_rule : (f : Function) (old : GoalTree) → 4 * goal_weight f old < 1 + 4 * goal_weight f old
at_rule f old = omega arith

pub at_front :
    (f : Function) (ob : ObName) (old front : GoalTree) → IsGoalOf f ob old → old ≡ front
    → (2 + 4 * goal_weight f front < 3 + 4 * goal_weight f old) × ((ob : ObName) × IsGoalOf f ob front)
at_front f ob old front is_goal same =
    let weighs : goal_weight f old ≡ goal_weight f front = ap (goal_weight f) same in
    (omega arith, (ob, subst (IsGoalOf f ob) same is_goal))

-- a question, or a form, and the goals behind it
module _ (f : Function) (ob : ObName) (old : GoalTree) (is_goal : IsGoalOf f ob old) (g : FormTree) (y n : GoalTree)
    (leads : LeadsTo f old (If g y n)) where
  question_belongs : IsGoalOf f ob (If g y n)
  question_belongs = leads.alike.belongs ob is_goal

  pub yes_behind : IsBehind f old y
  yes_behind =
      record { lighter = yes_is_lighter f g y n old leads.weighs; goal = (ob, part_of_yes f ob g y n question_belongs) }

  pub no_behind : IsBehind f old n
  no_behind =
      record { lighter = no_is_lighter f g y n old leads.weighs; goal = (ob, part_of_no f ob g y n question_belongs) }

  pub form_low : HasLowOffsets g
  form_low = low_offsets_of f ob g y n question_belongs

  laid_alike :
      (p q got : GoalTree) → StandsAlike f y p → StandsAlike f n q → got ≡ laid_form g p q → StandsAlike f old got
  laid_alike p q got hy hn e =
      alike_on f old (If g y n) got leads.alike
      (subst (StandsAlike f (If g y n)) (sym e) (alike_laid f g y n p q hy hn))

  -- what is laid out of the form, over two goals that stand for those behind it
  pub laid_by_form :
      {E : Type 0} (p q : GoalTree) (r : Result (Bor Goal) E) → StandsAlike f y p → StandsAlike f n q
      → IfOk r (λ got. goal_tree got.now ≡ laid_form g p q) → IfOk r (λ got. StandsAlike f old (goal_tree got.now))
  laid_by_form p q r hy hn h =
      IfOk-weaker r (λ got. goal_tree got.now ≡ laid_form g p q) (λ got. StandsAlike f old (goal_tree got.now))
      (λ got. laid_alike p q (goal_tree got.now) hy hn) h
