-- Operations that are found can be transformed.
use Rattle.std.proofs.Common.{◌≡◌, true, Some, sym, subst, arith}
use Rattle.std.proofs.lemmas.Int.{ints}
use Rattle.ot_model.specs.declared.op.Kind.{Kind}
use Rattle.ot_model.specs.declared.op.Op.{Op}
use Rattle.ot_model.specs.Operations.{kind_of}
use Rattle.fn_rules.specs.declared.function.Head.{Head}
use Rattle.fn_rules.specs.Conditions.{IsInRange, IsWithin}
use Rattle.fn_rules.specs.Functions.{IsForKind, is_declared}
use Rattle.ot_values.specs.Values.{farthest}

pub in_range : (o : Op) → IsWithin farthest o → IsInRange o
in_range o h = let low = h.0 in let high = h.1 in (omega (arith, ints), omega (arith, ints))

pub of_head : (head other : Head) (k : Kind) (o : Op) → kind_of o ≡ Some k → is_declared head k ≡ true → other ≡ head
    → IsForKind other (kind_of o)
of_head head other k o is declared heads =
    subst (λ (h : Head). IsForKind h (kind_of o)) (sym heads) (subst (λ kind. IsForKind head kind) (sym is) declared)
