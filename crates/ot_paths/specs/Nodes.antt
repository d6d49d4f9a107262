-- The nodes of an asker over the goals of one obligation.
use Rattle.std.specs.Prelude.{◌-ℤ◌}
use Rattle.diff_graph.specs.declared.lit.Lit.{Lit}
use Rattle.fn_rules.specs.declared.function.ObName.{ObName}
use Rattle.fn_rules.specs.Functions.{Function}
use Rattle.ask_core.specs.Askers.{IsFine}
use Rattle.ot_questions.specs.declared.place.Place.{Place}
use Rattle.ot_questions.specs.Names.{name_count}
use Rattle.ot_terms.specs.Goals.{GoalTree}
use Rattle.ot_terms.specs.Standing.{ask_goal}
use Rattle.ot_terms.specs.Belonging.{IsGoalOf}

-- the goal is of the function and the obligation, and what is left to be asked keeps the limits of plans
pub record IsNode (f : Function) (ob : ObName) (g : GoalTree) : Type 0 where
  pub goal : IsGoalOf f ob g
  pub fine : IsFine (name_count ob) (ask_goal f g)

-- the literal of the question whether the first place is at most the second
abbrev pub literal : Place → Place → Lit
literal x y = record { x = x.var; y = y.var; k = y.off -ℤ x.off }
