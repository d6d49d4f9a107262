-- Functions that are alike are for the same kinds, and forms can be transformed further.
use Rattle.std.proofs.Common.{◌≡◌, true, Bool, Option, Some, None, IsTrue, refl, ap, sym, subst, inl, inr, ◌∙◌, ◌+◌}
use Rattle.std.proofs.Common.{◌&&◌, arith}
use Rattle.std.proofs.lemmas.Int.{ints}
use Rattle.ot_model.specs.declared.op.Kind.{Kind}
use Rattle.ot_model.specs.declared.op.Kind.TheVariants as kinds
use Rattle.ot_model.specs.declared.op.Op.{Op}
use Rattle.ot_model.specs.Operations.{kind_of}
use Rattle.fn_rules.specs.declared.function.Head.{Head}
use Rattle.fn_rules.specs.Conditions.{IsFormOf, IsInRange, IsWithin}
use Rattle.fn_rules.specs.Functions.{HasDeclaredKind, IsForKind, is_declared, is_declared_pair}
use Rattle.ot_values.specs.Values.{farthest}
use Rattle.ot_reverse.specs.Reversal.{AreAlike}

but_for_flags : (head other : Head) (k : Kind)
    → is_declared (record other { sites_differ = head.sites_differ; chars_differ = head.chars_differ }) k
    ≡ is_declared other k
but_for_flags head other kinds.Ins = refl
but_for_flags head other kinds.Del = refl
but_for_flags head other kinds.Upd = refl

same_kinds : (head other : Head) (k : Kind) → AreAlike head other → is_declared head k ≡ is_declared other k
same_kinds head other k alike = ap (λ (h : Head). is_declared h k) alike ∙ but_for_flags head other k

pub for_alike : (head other : Head) (k : Option Kind) → AreAlike head other → IsForKind head k → IsForKind other k
for_alike head other None alike h = h
for_alike head other (Some k) alike h = subst (λ (b : Bool). IsTrue b) (same_kinds head other k alike) h

pub pair_alike :
    (head other : Head) (k l : Kind) → AreAlike head other → is_declared_pair head k l ≡ true
    → is_declared_pair other k l ≡ true
pair_alike head other k l alike h =
    ap (λ (b : Bool). b && is_declared other l) (sym (same_kinds head other k alike))
    ∙ ap (λ (b : Bool). is_declared head k && b) (sym (same_kinds head other l alike)) ∙ h

-- a form of an operation is nop or of its kind
form_for : (head : Head) (a form : Op) → IsFormOf a form → IsForKind head (kind_of a) → IsForKind head (kind_of form)
form_for head a form (inl gone) h = subst (λ (o : Op). IsForKind head (kind_of o)) (sym gone) refl
form_for head a form (inr moved) h = subst (λ (k : Option Kind). IsForKind head k) (sym moved.kind) h

pub form_alike :
    (head other : Head) (a form : Op) → AreAlike head other → IsFormOf a form → IsForKind head (kind_of a)
    → IsForKind other (kind_of form)
form_alike head other a form alike is h = for_alike head other (kind_of form) alike (form_for head a form is h)

pub form_in_range : (o : Op) → IsWithin (farthest + 99) o → IsInRange o
form_in_range o h = let low = h.0 in let high = h.1 in (omega (arith, ints), omega (arith, ints))

-- a kind that the function is for is for it
pub declared_for : (head : Head) (k : Option Kind) → HasDeclaredKind head k → IsForKind head k
declared_for head None h = absurd (cc)
declared_for head (Some k) h = h
