-- Whether one function takes back what another one makes of operations: an exclusion transformation takes out of a form
-- the effect of the operation that it was transformed against.
use Rattle.std.specs.Prelude.{◌≡◌, ◌≢◌, List, [], ◌∷◌, Option, Some, None}
use Rattle.ot_model.specs.declared.cell.Cell.{Cell}
use Rattle.ot_model.specs.declared.op.Op.{Op}
use Rattle.ot_model.specs.declared.op.Op.TheVariants.{Nop}
use Rattle.fn_rules.specs.declared.function.Head.{Head}
use Rattle.fn_rules.specs.Functions.{Function}
use Rattle.fn_rules.specs.Properties.{AreConcurrent}
use Rattle.fn_rules.specs.Transformation.{transform_of}

-- of one mode and for the same kinds: but for what they assume to differ, both heads are one
abbrev pub AreAlike : Head → Head → Type 0
AreAlike head other = head ≡ record other { sites_differ = head.sites_differ; chars_differ = head.chars_differ }

-- the first function has a form of `a` behind `b`, and the second one makes of it `a` again; a form that is nop has
-- lost its position, and nothing is asked of it
pub record IsTakenBack (f e : Function) (a b : Op) : Type 0 where
  pub there : Op
  pub transformed : transform_of f a b ≡ Some there
  pub back : there ≢ Nop → transform_of e there b ≡ Some a

-- the second function reverses the first: on every document, for all operations of the first one's kinds that are
-- enabled on it and that the first one allows with each other
abbrev pub Reverses : (e f : Function) → Type 0
Reverses e f = (d : List Cell) (a b : Op) → AreConcurrent f d (a ∷ b ∷ []) → IsTakenBack f e a b

-- what the second function makes of a form, if there is one
abbrev pub back_of : Function → Op → Option Op → Option Op
back_of e b None = None
back_of e b (Some there) = transform_of e there b
