-- What the guards of a block reach: which case is taken at two operations, whether the block is open there, and
-- whether two functions agree there.
use Rattle.std.specs.Prelude.{◌≡◌, ℕ, true, false, List, [], ◌∷◌, take, slice_get, Option, Some, None}
use Rattle.std.specs.List.{AllByRecursion}
use Rattle.ot_model.specs.declared.cell.Cell.{Cell}
use Rattle.ot_model.specs.declared.op.Kind.{Kind}
use Rattle.ot_model.specs.declared.op.Op.{Op}
use Rattle.ot_model.specs.Operations.{kind_of}
use Rattle.fn_rules.specs.Formulas.{holds_of}
use Rattle.fn_rules.specs.Functions.{Function, GuardedCase, cases_of}
use Rattle.fn_rules.specs.Properties.{AreConcurrent}
use Rattle.fn_rules.specs.Transformation.{transform_of}
use Rattle.ot_audit.specs.declared.target.Target.{Target}
use Rattle.ot_audit.specs.declared.target.Target.TheVariants.{Case, Open}

-- operations of the two kinds that are meant: on some document both are enabled, and they may be with each other
pub record AreMeant (f : Function) (k l : Kind) (a b : Op) : Type 0 where
  pub first : kind_of a ≡ Some k
  pub second : kind_of b ≡ Some l
  pub document : List Cell
  pub concurrent : AreConcurrent f document (a ∷ b ∷ [])

-- the guard of each of the cases is false at the two operations
abbrev pub AreFalse : List GuardedCase → Op → Op → Type 0
AreFalse cs a b = AllByRecursion (λ c. holds_of c.guard a b ≡ false) cs

-- there is such a case, and its guard is true there
abbrev pub IsTrueCase : Option GuardedCase → Op → Op → Type 0
IsTrueCase None a b = ⊥
IsTrueCase (Some c) a b = holds_of c.guard a b ≡ true

-- the case of this number is taken: its guard is true, and all earlier guards are false
pub record IsTakenCase (cs : List GuardedCase) (i : ℕ) (a b : Op) : Type 0 where
  pub earlier : AreFalse (take i cs) a b
  pub own : IsTrueCase (slice_get cs i) a b

-- the target is reached there: the case is taken, or the block is open, so that all its guards are false
abbrev pub IsReachedIn : List GuardedCase → Target → Op → Op → Type 0
IsReachedIn cs (Case i) a b = IsTakenCase cs i a b
IsReachedIn cs Open a b = AreFalse cs a b

-- the same in the block of two kinds
abbrev pub IsReached : Function → Kind → Kind → Target → Op → Op → Type 0
IsReached f k l target a b = IsReachedIn (cases_of f k l) target a b

-- two functions agree there: both results are none, or both are one operation
abbrev pub Agree : Function → Function → Op → Op → Type 0
Agree f g a b = transform_of f a b ≡ transform_of g a b
