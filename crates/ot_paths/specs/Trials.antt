-- A case that is tried.
use Rattle.std.specs.Prelude.{◌≡◌, Some}
use Rattle.fn_rules.specs.Formulas.{formula_of}
use Rattle.fn_rules.specs.Functions.{Function}
use Rattle.ot_questions.specs.declared.place.SymOp.{SymOp}
use Rattle.ot_questions.specs.Nears.{IsNearOp, HasNearAtoms}
use Rattle.ot_terms.specs.Goals.{GoalTree}
use Rattle.ot_rewrite.specs.declared.choosing.Trial.{Trial}
use Rattle.ot_rewrite.specs.Steps.{trial_tree}
use Rattle.ot_rewrite.specs.Table.{rewritten}

-- the rule for the goal tries the case at the two operations; all offsets are small
pub record IsTrialOf (f : Function) (old : GoalTree) (a b : SymOp) (t : Trial) : Type 0 where
  pub rule : rewritten f old ≡ Some (trial_tree a b (Some t))
  pub atoms_near : HasNearAtoms (formula_of t.guard.now)
  pub a_near : IsNearOp 200 a
  pub b_near : IsNearOp 200 b
