-- Where forms are: each transformation moves a position by at most 99.
use Rattle.std.proofs.Common.{◌≡◌, ◌<◌, ◌≤◌, ◌+◌, ◌*◌, ℕ, List, length, Option, Some, refl, sym, subst, inl, inr, arith}
use Rattle.std.proofs.lemmas.Int.{ints}
use Rattle.ot_model.specs.declared.op.Op.{Op}
use Rattle.ot_model.specs.declared.op.Kind.{Kind}
use Rattle.ot_model.specs.Operations.{kind_of}
use Rattle.fn_rules.specs.declared.function.Head.{Head}
use Rattle.fn_rules.specs.Functions.{Function, IsForKind}
use Rattle.fn_rules.specs.Conditions.{IsWithin, IsInRange, IsFormOf}
use Rattle.ot_causal.specs.Past.{Past}
use Rattle.ot_causal.specs.Forms.{form}
use Rattle.ot_session.specs.Past.{most_session_cells, IsUsablePast}

pub IsWithin-more : (m n : ℕ) (o : Op) → m ≤ n → IsWithin m o → IsWithin n o
IsWithin-more m n o more within = (omega (arith, ints), omega (arith, ints))

-- a form is of a kind that the function is for, or nop
pub IsForKind-form : (head : Head) (o p : Op) → IsFormOf o p → IsForKind head (kind_of o) → IsForKind head (kind_of p)
IsForKind-form head o p is declared = elim is [
  | inl nop ↦ subst (λ (q : Op). IsForKind head (kind_of q)) (sym nop) refl
  | inr moved ↦ subst (λ (k : Option Kind). IsForKind head k) (sym moved.kind) declared
]

-- the form of a usable operation can be transformed
pub form-usable : (f : Function) (past : Past) (o : ℕ) (l : List ℕ) (p : Op) → IsUsablePast f past
    → o < past.count → length l ≤ 1024
    → form f past o l ≡ Some p → IsFormOf (past.operation o) p → IsWithin (most_session_cells + 99 * length l) p
    → IsForKind f.head (kind_of p) × IsInRange p
form-usable f past o l p usable made few is kept near = (
  IsForKind-form f.head (past.operation o) p kept (usable.declared o),
  IsWithin-more (most_session_cells + 99 * length l) 1099511627776 p (omega (arith, few)) near,
)
