-- Which case a transformation takes: of the block for the kinds of two operations, the first case whose guard is true.
use Rattle.std.specs.Prelude.{◌≡◌, ◌≢◌, ◌<◌, ℕ, ◌+◌, true, false, if◌then◌else◌, List, [], ◌∷◌, slice_get}
use Rattle.std.specs.Prelude.{Option, Some, None, option_map}
use Rattle.std.specs.List.{AllByRecursion}
use Rattle.ot_model.specs.declared.op.Kind.{Kind}
use Rattle.ot_model.specs.declared.op.Op.{Op}
use Rattle.ot_model.specs.declared.op.Op.TheVariants.{Nop}
use Rattle.ot_model.specs.Operations.{kind_of}
use Rattle.fn_rules.specs.Formulas.{holds_of}
use Rattle.fn_rules.specs.Functions.{Function, GuardedCase, cases_of}
use Rattle.fn_rules.specs.Transformation.{result_of, transform_of}
use Rattle.ot_ways.specs.declared.taken_case.Taken.{Taken}

-- the number of the first case whose guard is true, where the first of these has number `n`
abbrev pub first_true : ℕ → List GuardedCase → Op → Op → Option ℕ
first_true n [] a b = None
first_true n (c ∷ cs) a b = if holds_of c.guard a b then Some n else first_true (n + 1) cs a b

-- by the kinds of the two operations: a transformation of nop, or against nop, takes no case
abbrev pub taken_by_kinds : Function → Op → Op → Option Kind → Option Kind → Option Taken
taken_by_kinds f a b None other = None
taken_by_kinds f a b (Some k) None = None
taken_by_kinds f a b (Some k) (Some l) =
    option_map (λ n. record { first = k; second = l; number = n }) (first_true 0 (cases_of f k l) a b)

-- the case that the transformation of the first operation against the second takes
abbrev pub taken_of : Function → Op → Op → Option Taken
taken_of f a b = taken_by_kinds f a b (kind_of a) (kind_of b)

-- the case that a block and a number name, if there is one
abbrev pub case_named : Function → Taken → Option GuardedCase
case_named f t = slice_get (cases_of f t.first t.second) t.number

-- it is the case of their block by which the interpreter gets its result: its guard is true at the two operations, no
-- guard before it is, and the transformation comes to its result
pub record IsTaken (f : Function) (a b : Op) (t : Taken) : Type 0 where
  pub first : kind_of a ≡ Some t.first
  pub second : kind_of b ≡ Some t.second
  pub case : GuardedCase
  pub there : case_named f t ≡ Some case
  pub holds : holds_of case.guard a b ≡ true
  pub no_earlier : (i : ℕ) (earlier : GuardedCase) → i < t.number
      → slice_get (cases_of f t.first t.second) i ≡ Some earlier → holds_of earlier.guard a b ≡ false
  pub comes_to : transform_of f a b ≡ Some (result_of case.res a b)

-- no case is taken where each guard of the block is false
abbrev pub AreAllFalse : Function → Op → Op → Type 0
AreAllFalse f a b = (k l : Kind) → kind_of a ≡ Some k → kind_of b ≡ Some l
    → AllByRecursion (λ c. holds_of c.guard a b ≡ false) (cases_of f k l)

-- neither operation is nop
abbrev pub BothAct : Op → Op → Type 0
BothAct a b = (a ≢ Nop) × (b ≢ Nop)
