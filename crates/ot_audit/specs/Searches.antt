-- What the end of a goal's plan says at one valuation: whether the two operations that the names stand for are those
-- that are sought.
use Rattle.std.specs.Prelude.{◌≡◌, ℕ, ℤ, pos}
use Rattle.ot_model.specs.declared.op.Kind.{Kind}
use Rattle.ot_model.specs.declared.op.Op.{Op}
use Rattle.fn_rules.specs.Functions.{Function}
use Rattle.ot_questions.specs.declared.name.Who.TheVariants.{A, B}
use Rattle.ot_questions.specs.Instances.{StandsForOperation}
use Rattle.ot_questions.specs.Names.{zero_name}
use Rattle.ot_questions.specs.Places.{sym_op}
use Rattle.ot_audit.specs.declared.target.Target.{Target}
use Rattle.ot_audit.specs.Reached.{AreMeant, IsReached, Agree}

-- the names stand for two operations
pub record NamesTwo (k l : Kind) (v : ℕ → ℤ) (a b : Op) : Type 0 where
  pub zero : v zero_name ≡ pos 0
  pub first : StandsForOperation v (sym_op k A) a
  pub second : StandsForOperation v (sym_op l B) b

-- operations that are meant, at which the target is reached
abbrev pub ReachesTarget : Function → Kind → Kind → Target → Op → Op → Type 0
ReachesTarget f k l target a b = AreMeant f k l a b × IsReached f k l target a b

-- operations that are meant, at which the functions do not agree
abbrev pub Differs : Function → Function → Kind → Kind → Op → Op → Type 0
Differs f g k l a b = AreMeant f k l a b × (Agree f g a b → ⊥)
