-- What the plan of an obligation means: an instance of a property, for all operations of its kinds.
use Rattle.std.specs.Prelude.{◌≡◌, ℕ, ℤ, pos, IsTrue, List, length, Some, unsigned_abs}
use Rattle.std.specs.List.{AllByRecursion}
use Rattle.ot_model.specs.declared.cell.Cell.{Cell}
use Rattle.ot_model.specs.declared.op.Op.{Op}
use Rattle.ot_model.specs.declared.op.Op.TheVariants as ops
use Rattle.ot_model.specs.declared.op.Kind.{Kind}
use Rattle.ot_model.specs.Effect.{IsEnabled}
use Rattle.ot_model.specs.Operations.{kind_of}
use Rattle.fn_rules.specs.declared.function.ObName.{ObName}
use Rattle.fn_rules.specs.Functions.{Function}
use Rattle.fn_rules.specs.Transformation.{IsAllowed}
use Rattle.fn_rules.specs.Properties.{ConvergesAt, CommutesAt}
use Rattle.ask_core.specs.Plans.{Plan, value}
use Rattle.ot_questions.specs.declared.place.SymOp.{SymOp}
use Rattle.ot_questions.specs.declared.place.SymOp.TheVariants.{Ins, Del, Upd, Nop}
use Rattle.ot_questions.specs.declared.why.Why.{Why}
use Rattle.ot_questions.specs.Places.{integer_at}
use Rattle.ot_questions.specs.Obligation.{plan_of}

-- the operation that the names stand for at a valuation
abbrev pub op_at : (ℕ → ℤ) → SymOp → Op
op_at v (Ins at ch site) = ops.Ins (integer_at v at) (unsigned_abs (v ch)) (unsigned_abs (v site))
op_at v (Del at site) = ops.Del (integer_at v at) (unsigned_abs (v site))
op_at v (Upd at ch site) = ops.Upd (integer_at v at) (unsigned_abs (v ch)) (unsigned_abs (v site))
op_at v Nop = ops.Nop

-- TP1 for all operations of the two kinds on all documents of so many cells
abbrev pub HasPair : Function → Kind → Kind → ℕ → Type 0
HasPair f k l n =
    (d : List Cell) (a b : Op) → length d ≡ n → kind_of a ≡ Some k → kind_of b ≡ Some l
    → IsEnabled a n → IsEnabled b n → IsAllowed f a b → ConvergesAt f d a b

-- TP2 for all operations of the three kinds on documents of so many cells
abbrev pub HasTriple : Function → Kind → Kind → Kind → ℕ → Type 0
HasTriple f k l m n =
    (a b c : Op) → kind_of a ≡ Some k → kind_of b ≡ Some l → kind_of c ≡ Some m
    → IsEnabled a n → IsEnabled b n → IsEnabled c n
    → IsAllowed f a b → IsAllowed f a c → IsAllowed f b c → CommutesAt f a b c

-- the plan holds at every valuation at which the document has so many cells
abbrev pub HoldsAtLength : Function → ObName → ℕ → Type 0
HoldsAtLength f ob n = (v : ℕ → ℤ) → v 0 ≡ pos 0 → v 1 ≡ pos n → IsTrue (value (plan_of f ob) v)

-- a plan holds at every valuation
abbrev pub AlwaysHolds : Plan Why → Type 0
AlwaysHolds p = (v : ℕ → ℤ) → v 0 ≡ pos 0 → IsTrue (value p v)

-- that of an obligation does
abbrev pub ObligationHolds : Function → ObName → Type 0
ObligationHolds f ob = AlwaysHolds (plan_of f ob)

-- each of the plans does
abbrev pub AllHold : Function → List ObName → Type 0
AllHold f obs = AllByRecursion (ObligationHolds f) obs

-- each of the plans holds at every valuation at which the document has so many cells
abbrev pub AllHoldAtLength : Function → List ObName → ℕ → Type 0
AllHoldAtLength f obs n = AllByRecursion (λ ob. HoldsAtLength f ob n) obs
