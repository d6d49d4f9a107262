-- The properties of a function and of the transformation that it is, at one instance and at all.
use Rattle.std.proofs.Common.{◌≡◌, List, [], ◌∷◌, ◌∙◌, ap, subst, refl}
use Rattle.std.specs.List.{AllByRecursion}
use Rattle.ot_model.specs.declared.cell.Cell.{Cell}
use Rattle.ot_model.specs.declared.op.Op.{Op}
use Rattle.ot_model.specs.Operations.{kind_of}
use Rattle.fn_rules.specs.declared.function.Head.{Head}
use Rattle.fn_rules.specs.Functions.{Function, HasDeclaredKind}
use Rattle.fn_rules.specs.Properties.{AreConcurrent, ConvergesAt, CommutesAt, HasTp1, HasTp2}
use Rattle.fn_rules.specs.Transformation.{transform_of, IsAllowed}
use Rattle.ot_heads.specs.Transformations.{function_with, ConvergesUnder, CommutesUnder, HasTp1Of, HasTp2Of}

-- operations are concurrent for every function of a head or for none
module _ (f g : Function) (same : f.head ≡ g.head) where
  allowed_with : (a b : Op) → IsAllowed f a b → IsAllowed g a b
  allowed_with a b allowed = record {
    sites = λ assumed. allowed.sites (ap (λ (h : Head). h.sites_differ) same ∙ assumed);
    chars = λ assumed. allowed.chars (ap (λ (h : Head). h.chars_differ) same ∙ assumed);
  }

  all_allowed_with :
      (o : Op) (others : List Op) → AllByRecursion (λ other. IsAllowed f o other) others
      → AllByRecursion (λ other. IsAllowed g o other) others
  all_allowed_with o [] all = tt
  all_allowed_with o (other ∷ others) all = (allowed_with o other all.0, all_allowed_with o others all.1)

  pub concurrent_with : (d : List Cell) (os : List Op) → AreConcurrent f d os → AreConcurrent g d os
  concurrent_with d [] all = tt
  concurrent_with d (o ∷ others) all = (
    subst (λ (h : Head). HasDeclaredKind h (kind_of o)) same all.0,
    all.1,
    all_allowed_with o others all.2,
    concurrent_with d others all.3,
  )

module _ (f : Function) where
  converges_under : (d : List Cell) (a b : Op) → ConvergesAt f d a b → ConvergesUnder f.head.mode (transform_of f) d a b
  converges_under d a b at = record {
    b_after_a = at.b_after_a;
    a_after_b = at.a_after_b;
    b_transformed = at.b_transformed;
    a_transformed = at.a_transformed;
    b_enabled = at.b_enabled;
    a_enabled = at.a_enabled;
    one_document = at.one_document;
  }

  converges_at : (d : List Cell) (a b : Op) → ConvergesUnder f.head.mode (transform_of f) d a b → ConvergesAt f d a b
  converges_at d a b under = record {
    b_after_a = under.b_after_a;
    a_after_b = under.a_after_b;
    b_transformed = under.b_transformed;
    a_transformed = under.a_transformed;
    b_enabled = under.b_enabled;
    a_enabled = under.a_enabled;
    one_document = under.one_document;
  }

  commutes_under : (a b c : Op) → CommutesAt f a b c → CommutesUnder (transform_of f) a b c
  commutes_under a b c at = record {
    b_after_a = at.b_after_a;
    a_after_b = at.a_after_b;
    c_after_a = at.c_after_a;
    c_after_b = at.c_after_b;
    c_after_both = at.c_after_both;
    b_transformed = at.b_transformed;
    a_transformed = at.a_transformed;
    c_by_a = at.c_by_a;
    c_by_b = at.c_by_b;
    c_by_a_then_b = at.c_by_a_then_b;
    c_by_b_then_a = at.c_by_b_then_a;
  }

  commutes_at : (a b c : Op) → CommutesUnder (transform_of f) a b c → CommutesAt f a b c
  commutes_at a b c under = record {
    b_after_a = under.b_after_a;
    a_after_b = under.a_after_b;
    c_after_a = under.c_after_a;
    c_after_b = under.c_after_b;
    c_after_both = under.c_after_both;
    b_transformed = under.b_transformed;
    a_transformed = under.a_transformed;
    c_by_a = under.c_by_a;
    c_by_b = under.c_by_b;
    c_by_a_then_b = under.c_by_a_then_b;
    c_by_b_then_a = under.c_by_b_then_a;
  }

  pub to_tp1_of : HasTp1 f → HasTp1Of f.head (transform_of f)
  to_tp1_of tp1 d a b are =
      converges_under d a b (tp1 d a b (concurrent_with (function_with f.head) f refl d (a ∷ b ∷ []) are))

  pub from_tp1_of : HasTp1Of f.head (transform_of f) → HasTp1 f
  from_tp1_of tp1 d a b are =
      converges_at d a b (tp1 d a b (concurrent_with f (function_with f.head) refl d (a ∷ b ∷ []) are))

  pub to_tp2_of : HasTp2 f → HasTp2Of f.head (transform_of f)
  to_tp2_of tp2 d a b c are =
      commutes_under a b c (tp2 d a b c (concurrent_with (function_with f.head) f refl d (a ∷ b ∷ c ∷ []) are))

  pub from_tp2_of : HasTp2Of f.head (transform_of f) → HasTp2 f
  from_tp2_of tp2 d a b c are =
      commutes_at a b c (tp2 d a b c (concurrent_with f (function_with f.head) refl d (a ∷ b ∷ c ∷ []) are))
