-- Guards as plain trees, and their truth at two operations.
use Rattle.std.specs.Prelude.{ℤ, pos, ◌+ℤ◌, Bool, true, not, ◌&&◌, ◌||◌, unwrap_or, int_le, int_lt}
use Rattle.std.specs.Ordering.{int_eq}
use Rattle.ot_model.specs.declared.op.Op.{Op}
use Rattle.ot_model.specs.Operations.{at_of, site_of, char_of}
use Rattle.fn_rules.specs.declared.guard.Side.{Side}
use Rattle.fn_rules.specs.declared.guard.Side.TheVariants.{First, Second}
use Rattle.fn_rules.specs.declared.guard.Sort.{Sort}
use Rattle.fn_rules.specs.declared.guard.Sort.TheVariants.{Pos, Site, Char}
use Rattle.fn_rules.specs.declared.guard.Cmp.{Cmp}
use Rattle.fn_rules.specs.declared.guard.Cmp.TheVariants.{Lt, Le, Eq}
use Rattle.fn_rules.specs.declared.guard.Atom.{Atom}
use Rattle.fn_rules.specs.declared.guard.Guard.{Guard}
use Rattle.fn_rules.specs.declared.guard.Guard.TheVariants as rust

-- a guard as a plain tree, whose parts are values
pub data Formula : Type 0 where
  Always : Formula
  Compare : Atom → Formula
  And : Formula → Formula → Formula
  Or : Formula → Formula → Formula
  Not : Formula → Formula

-- the plain tree that a guard stands for
abbrev pub formula_of : Guard → Formula
formula_of rust.True = Always
formula_of (rust.Atom a) = Compare a
formula_of (rust.And' p x q y) = And (formula_of x) (formula_of y)
formula_of (rust.Or' p x q y) = Or (formula_of x) (formula_of y)
formula_of (rust.Not' p x) = Not (formula_of x)

-- the operation of a side
abbrev pub of_side : {X : Type 0} → Side → X → X → X
of_side First a b = a
of_side Second a b = b

abbrev pub other_side : Side → Side
other_side First = Second
other_side Second = First

-- what an atom compares: the position, the site or the character of an operation, as an integer
abbrev pub thing_of : Sort → Op → ℤ
thing_of Pos o = at_of o
thing_of Site o = pos (unwrap_or (site_of o) 0)
thing_of Char o = pos (unwrap_or (char_of o) 0)

abbrev pub is_compared : Cmp → ℤ → ℤ → Bool
is_compared Lt x y = int_lt x y
is_compared Le x y = int_le x y
is_compared Eq x y = int_eq x y

-- the truth of an atom at two operations
abbrev pub atom_holds : Atom → Op → Op → Bool
atom_holds atom a b =
    is_compared atom.cmp (thing_of atom.sort (of_side atom.left a b))
    (thing_of atom.sort (of_side (other_side atom.left) a b) +ℤ atom.k)

-- the truth of a guard at two operations
abbrev pub holds_of : Formula → Op → Op → Bool
holds_of Always a b = true
holds_of (Compare atom) a b = atom_holds atom a b
holds_of (And g h) a b = holds_of g a b && holds_of h a b
holds_of (Or g h) a b = holds_of g a b || holds_of h a b
holds_of (Not g) a b = not (holds_of g a b)
