-- Positions that can be calculated with, and forms at such positions.
use Rattle.std.proofs.Common.{ℕ, ◌≤◌, refl, subst, sym, arith, inl, inr}
use Rattle.std.proofs.lemmas.Int.{ints}
use Rattle.ot_model.specs.declared.op.Op.{Op}
use Rattle.ot_model.specs.Operations.{kind_of}
use Rattle.fn_rules.specs.declared.function.Head.{Head}
use Rattle.fn_rules.specs.Functions.{IsForKind}
use Rattle.fn_rules.specs.Conditions.{IsWithin, IsFormOf}

pub IsWithin-more : (m n : ℕ) (o : Op) → m ≤ n → IsWithin m o → IsWithin n o
IsWithin-more m n o h g = let low = g.0 in let high = g.1 in (omega (arith, ints), omega (arith, ints))

-- a form is of the kind of the operation, or nop
pub IsForKind-form : (head : Head) (o form : Op) → IsFormOf o form → IsForKind head (kind_of o)
    → IsForKind head (kind_of form)
IsForKind-form head o form (inl nop) h = subst (λ p. IsForKind head (kind_of p)) (sym nop) refl
IsForKind-form head o form (inr moved) h = subst (λ k. IsForKind head k) (sym moved.kind) h
