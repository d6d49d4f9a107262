-- The two properties at forms: at operations that may be nop.
use Rattle.std.proofs.Common.{◌≡◌, ◌⊎◌, ℕ, true, List, length, Option, Some, None, refl, sym, subst, inl, inr}
use Rattle.ot_model.specs.declared.cell.Cell.{Cell}
use Rattle.ot_model.specs.declared.op.Op.{Op}
use Rattle.ot_model.specs.declared.op.Op.TheVariants.{Ins, Del, Upd, Nop}
use Rattle.ot_model.specs.declared.op.Kind.{Kind}
use Rattle.ot_model.specs.Operations.{kind_of}
use Rattle.ot_model.specs.Effect.{IsEnabled, is_enabled}
use Rattle.fn_rules.specs.declared.function.Head.{Head}
use Rattle.fn_rules.specs.Functions.{Function, IsForKind, HasDeclaredKind}
use Rattle.fn_rules.specs.Transformation.{IsAllowed}
use Rattle.fn_rules.specs.Conditions.{IsIntegrable, IsFormOf}
use Rattle.fn_rules.specs.Properties.{ConvergesAt, CommutesAt, converges_exchanged, commutes_exchanged, HasTp1, HasTp2}
use Rattle.fn_rules.specs.Forms.{KeepsForms, ConvergesOnForms, CarriesForms}
use Rattle.fn_rules.proofs.Forms.{IsAllowed-sym, IsAllowed-form, IsFormOf-transform_of, transform_of-by_nop}

-- a kind that the function is for is there or not
IsForKind-declared : (head : Head) (k : Option Kind) → HasDeclaredKind head k → IsForKind head k
IsForKind-declared head None declared = cc
IsForKind-declared head (Some k) declared = declared

-- a form is of a kind that the function is for, or nop
IsForKind-form : (head : Head) (o form : Op) → IsFormOf o form → IsForKind head (kind_of o)
    → IsForKind head (kind_of form)
IsForKind-form head o form (inl nop) declared = subst (λ (p : Op). IsForKind head (kind_of p)) (sym nop) refl
IsForKind-form head o form (inr moved) declared =
    subst (λ (k : Option Kind). IsForKind head k) (sym moved.kind) declared

-- an operation that may be integrated is nop or of a declared kind
HasDeclaredKind-or_nop : (head : Head) (o : Op) → IsForKind head (kind_of o)
    → (o ≡ Nop) ⊎ HasDeclaredKind head (kind_of o)
HasDeclaredKind-or_nop head (Ins at ch site) declared = inr declared
HasDeclaredKind-or_nop head (Del at site) declared = inr declared
HasDeclaredKind-or_nop head (Upd at ch site) declared = inr declared
HasDeclaredKind-or_nop head Nop declared = inl refl

-- nop and another operation
ConvergesAt-nop : (f : Function) (d : List Cell) (a : Op) → IsEnabled a (length d) → ConvergesAt f d a Nop
ConvergesAt-nop f d a enabled = record {
  b_after_a = Nop;
  a_after_b = a;
  b_transformed = refl;
  a_transformed = transform_of-by_nop f a;
  b_enabled = tt;
  a_enabled = enabled;
  one_document = refl;
}

-- the first property holds of forms too
pub ConvergesOnForms-tp1 : (f : Function) → HasTp1 f → ConvergesOnForms f
ConvergesOnForms-tp1 f tp1 d a b as_a as_b allowed = elim (HasDeclaredKind-or_nop f.head a as_a.declared) [
  | inl nop ↦ subst (λ (o : Op). ConvergesAt f d o b) (sym nop)
      (converges_exchanged f d b Nop (ConvergesAt-nop f d b as_b.enabled))
  | inr kind_a ↦ elim (HasDeclaredKind-or_nop f.head b as_b.declared) [
    | inl nop ↦ subst (λ (o : Op). ConvergesAt f d a o) (sym nop) (ConvergesAt-nop f d a as_a.enabled)
    | inr kind_b ↦ tp1 d a b (kind_a, as_a.enabled, (allowed, tt), (kind_b, as_b.enabled, tt, tt))
  ]
]

-- nop is carried through every two as nop
CommutesAt-nop : (f : Function) (d : List Cell) (a b : Op) → ConvergesAt f d a b → CommutesAt f a b Nop
CommutesAt-nop f d a b converges = record {
  b_after_a = converges.b_after_a;
  a_after_b = converges.a_after_b;
  c_after_a = Nop;
  c_after_b = Nop;
  c_after_both = Nop;
  b_transformed = converges.b_transformed;
  a_transformed = converges.a_transformed;
  c_by_a = refl;
  c_by_b = refl;
  c_by_a_then_b = refl;
  c_by_b_then_a = refl;
}

-- an operation is carried through nop and another one as through that one
CommutesAt-behind_nop : (f : Function) (d : List Cell) (b c : Op) → ConvergesAt f d b c → CommutesAt f Nop b c
CommutesAt-behind_nop f d b c converges = record {
  b_after_a = b;
  a_after_b = Nop;
  c_after_a = c;
  c_after_b = converges.b_after_a;
  c_after_both = converges.b_after_a;
  b_transformed = transform_of-by_nop f b;
  a_transformed = refl;
  c_by_a = transform_of-by_nop f c;
  c_by_b = converges.b_transformed;
  c_by_a_then_b = converges.b_transformed;
  c_by_b_then_a = transform_of-by_nop f converges.b_after_a;
}

-- the second property holds of forms too
CommutesAt-integrable : (f : Function) → HasTp2 f → ConvergesOnForms f → (d : List Cell) (a b c : Op)
    → IsIntegrable f (length d) a → IsIntegrable f (length d) b → IsIntegrable f (length d) c
    → IsAllowed f a b → IsAllowed f a c → IsAllowed f b c → CommutesAt f a b c
CommutesAt-integrable f tp2 converging d a b c as_a as_b as_c a_with_b a_with_c b_with_c =
    elim (HasDeclaredKind-or_nop f.head c as_c.declared) [
      | inl nop ↦
          subst (λ (o : Op). CommutesAt f a b o) (sym nop)
          (CommutesAt-nop f d a b (converging d a b as_a as_b a_with_b))
      | inr kind_c ↦ elim (HasDeclaredKind-or_nop f.head a as_a.declared) [
        | inl nop ↦ subst (λ (o : Op). CommutesAt f o b c) (sym nop)
            (CommutesAt-behind_nop f d b c (converging d b c as_b as_c b_with_c))
        | inr kind_a ↦ elim (HasDeclaredKind-or_nop f.head b as_b.declared) [
          | inl nop ↦ subst (λ (o : Op). CommutesAt f a o c) (sym nop)
              (commutes_exchanged f Nop a c (CommutesAt-behind_nop f d a c (converging d a c as_a as_c a_with_c)))
          | inr kind_b ↦ tp2 d a b c (
            kind_a,
            as_a.enabled,
            (a_with_b, (a_with_c, tt)),
            (kind_b, as_b.enabled, (b_with_c, tt), (kind_c, as_c.enabled, tt, tt)),
          )
        ]
      ]
    ]

pub KeepsForms-every : (f : Function) → ((n : ℕ) (o : Op) → IsEnabled o n → is_enabled o n ≡ true) → KeepsForms f
KeepsForms-every f tested = record {
  made = λ o. IsForKind-declared f.head (kind_of o);
  declared = λ a b form is. IsForKind-form f.head a form (IsFormOf-transform_of f a b form is);
  allowed = λ a b form other is. IsAllowed-form f a form other (IsFormOf-transform_of f a b form is);
  allowed_back = IsAllowed-sym f;
  enabled_is_tested = tested;
}

pub CarriesForms-both : (f : Function) → KeepsForms f → HasTp1 f → HasTp2 f → CarriesForms f
CarriesForms-both f keeps tp1 tp2 = record {
  keeps = keeps;
  converging = ConvergesOnForms-tp1 f tp1;
  commuting = CommutesAt-integrable f tp2 (ConvergesOnForms-tp1 f tp1);
}
