-- Offsets that are small.
use Rattle.std.specs.Prelude.{ℕ, ◌+◌, ℤ, pos, ◌≤ℤ◌, neg_ℤ}
use Rattle.ot_questions.specs.declared.place.SymOp.{SymOp}
use Rattle.ot_questions.specs.Places.{sym_at, sym_kind, offset_of}
use Rattle.fn_rules.specs.Formulas.{Formula, Always, Compare, And, Or, Not}
use Rattle.fn_rules.specs.Functions.{GuardedCase, IsForKind}
use Rattle.fn_rules.specs.declared.function.Head.{Head}

-- at most `n` in absolute value
pub record IsNear (n : ℕ) (off : ℤ) : Type 0 where
  pub low : neg_ℤ (pos n) ≤ℤ off
  pub high : off ≤ℤ pos n

-- the operation's place has an offset of at most `n` in absolute value
abbrev pub IsNearOp : ℕ → SymOp → Type 0
IsNearOp n o = IsNear n (sym_at o).off

-- the operation is nop or of a kind that the function is for
abbrev pub IsDeclaredOp : Head → SymOp → Type 0
IsDeclaredOp head o = IsForKind head (sym_kind o)

-- each atom of the guard has an offset of at most 99 in absolute value
abbrev pub HasNearAtoms : Formula → Type 0
HasNearAtoms Always = Unit {0}
HasNearAtoms (Compare atom) = IsNear 99 atom.k
HasNearAtoms (And g h) = HasNearAtoms g × HasNearAtoms h
HasNearAtoms (Or g h) = HasNearAtoms g × HasNearAtoms h
HasNearAtoms (Not g) = HasNearAtoms g

-- so have the guard and the result of a case
abbrev pub IsNearCase : GuardedCase → Type 0
IsNearCase c = HasNearAtoms c.guard × IsNear 99 (offset_of c.res)

-- what may come out of a transformation, by its offset and kind: an operation whose place is at most 99
-- away from that of one of the two, and whose kind is that of the first, or nop
pub record IsResultOf (a b r : SymOp) : Type 0 where
  pub near : (n : ℕ) → IsNearOp n a → IsNearOp n b → IsNearOp (n + 99) r
  pub kind : (head : Head) → IsDeclaredOp head a → IsDeclaredOp head r
