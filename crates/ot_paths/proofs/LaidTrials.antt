-- Cases that are tried.
use Rattle.std.proofs.Common.{◌≡◌, ℕ, IsTrue, Option, Some, None, IfSome, refl, ap, sym, arith}
use Rattle.std.proofs.lemmas.Int.{ints}
use Rattle.fn_rules.specs.declared.function.ObName.{ObName}
use Rattle.fn_rules.specs.Formulas.{formula_of}
use Rattle.fn_rules.specs.Functions.{Function}
use Rattle.fn_rules.specs.Validity.{is_valid}
use Rattle.ot_questions.specs.declared.place.SymOp.{SymOp}
use Rattle.ot_questions.specs.Nears.{IsNearOp, HasNearAtoms}
use Rattle.ot_terms.specs.declared.goal.GoalProgress.{GoalProgress}
use Rattle.ot_terms.specs.Belonging.{IsGoalOf}
use Rattle.ot_terms.specs.Goals.{GoalTree, Choose}
use Rattle.ot_rewrite.specs.declared.choosing.Trial.{Trial}
use Rattle.ot_rewrite.specs.Steps.{trial_tree, IsChoosable}
use Rattle.ot_rewrite.specs.Table.{rewrite_choose, rewritten}
use Rattle.ot_rewrite.proofs.Stepped.{rule_steps}
use Rattle.ot_paths.specs.Trials.{IsTrialOf}
use Rattle.ot_paths.proofs.LaidGoals.{LeadsTo, leads_by_step}

-- an operation that is near is nearer than a wider bound
wider : (o : SymOp) → IsNearOp 99 o → IsNearOp 200 o
wider o near = record { low = omega (arith, ints, near.low); high = omega (arith, ints, near.high) }

-- a goal leads to the case that is tried
pub trial_leads :
    (f : Function) (ob : ObName) (old : GoalTree) (a b : SymOp) (t : Trial) → IsTrue (is_valid f) → IsGoalOf f ob old
    → IsTrialOf f old a b t → LeadsTo f old (trial_tree a b (Some t))
trial_leads f ob old a b t valid is_goal tried =
    let new = trial_tree a b (Some t) in
    leads_by_step f old new new (rule_steps f ob valid old is_goal new tried.rule) refl

module _ (f : Function) (ob : ObName) (case : ℕ) (a b : SymOp) (plan : GoalProgress)
    (h : IsGoalOf f ob (Choose case a b plan)) where
  pub choosable : IsChoosable f case a b
  choosable = record {
    a_declared = h.parts.a_declared;
    b_declared = h.parts.b_declared;
    a_near = h.parts.a_near;
    b_near = h.parts.b_near;
    cases = h.parts.cases;
  }

  trying_rule :
      (t : Trial) → trial_tree a b (Some t) ≡ rewrite_choose f case a b plan
      → rewritten f (Choose case a b plan) ≡ Some (trial_tree a b (Some t))
  unfolding rewritten
  trying_rule t e = ap Some (sym e)

  pub trials :
      (r : Option Trial) → IfSome r (λ t. trial_tree a b (Some t) ≡ rewrite_choose f case a b plan)
      → IfSome r (λ t. HasNearAtoms (formula_of t.guard.now)) → IfSome r (IsTrialOf f (Choose case a b plan) a b)
  trials None tries near = tt
  trials (Some t) tries near = record {
    rule = trying_rule t tries;
    atoms_near = near;
    a_near = wider a h.parts.a_near;
    b_near = wider b h.parts.b_near;
  }
