-- Functions as plain data: a head, and a list of guarded cases for each ordered pair of kinds.
use Rattle.std.specs.Prelude.{◌≡◌, Bool, true, false, ◌&&◌, List, Option, Some, None, IsTrue}
use Rattle.ot_model.specs.declared.op.Kind.{Kind}
use Rattle.ot_model.specs.declared.op.Kind.TheVariants.{Ins, Del, Upd}
use Rattle.fn_rules.specs.declared.function.Res.{Res}
use Rattle.fn_rules.specs.declared.function.Case.{Case}
use Rattle.fn_rules.specs.declared.function.Head.{Head}
use Rattle.fn_rules.specs.Formulas.{Formula, formula_of}

-- a guard with its result
pub record GuardedCase : Type 0 where
  pub guard : Formula
  pub res : Res

-- a function; the cases of a pair whose kinds are not both declared are of no account
pub record Function : Type 0 where
  pub head : Head
  pub cases : Kind → Kind → List GuardedCase

-- the plain case that a case stands for
abbrev pub case_of : Case → GuardedCase
case_of c = record { guard = formula_of c.guard; res = c.res }

-- the cases of a function for an ordered pair of kinds
abbrev pub cases_of : Function → Kind → Kind → List GuardedCase
cases_of f k l = f.cases k l

-- whether the function is for operations of this kind
abbrev pub is_declared : Head → Kind → Bool
is_declared head Ins = head.ins
is_declared head Del = head.del
is_declared head Upd = head.upd

-- whether it is for operations of both kinds
abbrev pub is_declared_pair : Head → Kind → Kind → Bool
is_declared_pair head k l = is_declared head k && is_declared head l

-- the same of a pair of kinds
abbrev pub is_declared_of : Head → Kind × Kind → Bool
is_declared_of head pair = is_declared_pair head pair.0 pair.1

-- a kind that the function is for, or none, as nop has it
abbrev pub is_for_kind : Head → Option Kind → Bool
is_for_kind head None = true
is_for_kind head (Some k) = is_declared head k

-- the same as a fact
abbrev pub IsForKind : Head → Option Kind → Type 0
IsForKind head k = IsTrue (is_for_kind head k)

-- a kind that the function is for, which nop has not
abbrev pub has_declared_kind : Head → Option Kind → Bool
has_declared_kind head None = false
has_declared_kind head (Some k) = is_declared head k

-- the same as a fact
abbrev pub HasDeclaredKind : Head → Option Kind → Type 0
HasDeclaredKind head k = has_declared_kind head k ≡ true
