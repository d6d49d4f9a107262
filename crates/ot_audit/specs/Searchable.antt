-- What a goal of a pair keeps, so that it may be searched.
use Rattle.std.specs.Prelude.{◌≡◌, ℕ, ℤ, pos, List}
use Rattle.diff_graph.specs.declared.lit.Lit.{Lit}
use Rattle.diff_graph.specs.Literals.{AreMet}
use Rattle.ot_model.specs.declared.op.Kind.{Kind}
use Rattle.fn_rules.specs.declared.function.ObName.TheVariants.{Pair}
use Rattle.fn_rules.specs.Functions.{Function}
use Rattle.ask_core.specs.Askers.{IsFine}
use Rattle.ask_core.specs.Leading.{LeadTo}
use Rattle.ot_questions.specs.declared.why.Why.{Why}
use Rattle.ot_questions.specs.Names.{zero_name, name_count}
use Rattle.ot_questions.specs.Sorts.{AsksLike, HasNoNegativePosition}
use Rattle.ot_terms.specs.Belonging.{IsGoalOf}
use Rattle.ot_terms.specs.Goals.{GoalTree}
use Rattle.ot_terms.specs.Standing.{ask_goal}

-- the goal is of the pair and keeps the limits of plans, its questions compare like with like, and no position is
-- negative that answers to an end that fails speak of
pub record IsSearchable (f : Function) (k l : Kind) (g : GoalTree) : Type 0 where
  pub goal : IsGoalOf f (Pair k l) g
  pub fine : IsFine (name_count (Pair k l)) (ask_goal f g)
  pub like : AsksLike (ask_goal f g)
  pub positions :
      (why : Why) (w : List Lit) (v : ℕ → ℤ) → LeadTo why (ask_goal f g) w → v zero_name ≡ pos 0 → AreMet v w
      → HasNoNegativePosition w v
