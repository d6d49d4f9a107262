-- The two properties of transformation functions, of M. Ressel, D. Nitsche-Ruhland and
-- R. Gunzenhäuser, "An Integrating, Transformation-Oriented Approach to Concurrency Control and Undo
-- in Group Editors" (1996). What each says of one instance is defined once: a property says that it
-- always holds, a counterexample that it fails.
use Rattle.std.specs.Prelude.{◌≡◌, ℕ, List, [], ◌∷◌, length, Some}
use Rattle.std.proofs.Common.{sym}
use Rattle.std.specs.List.{AllByRecursion}
use Rattle.ot_model.specs.declared.cell.Cell.{Cell}
use Rattle.ot_model.specs.declared.op.Op.{Op}
use Rattle.ot_model.specs.Operations.{kind_of}
use Rattle.ot_model.specs.Effect.{IsEnabled, document_after}
use Rattle.fn_rules.specs.Functions.{Function, HasDeclaredKind}
use Rattle.fn_rules.specs.Transformation.{transform_of, IsAllowed}

-- operations of the function's kinds, all enabled on one document, and pairwise allowed
abbrev pub AreConcurrent : Function → List Cell → List Op → Type 0
AreConcurrent f d [] = Unit {0}
AreConcurrent f d (o ∷ others) =
    HasDeclaredKind f.head (kind_of o)
    × IsEnabled o (length d)
    × AllByRecursion (λ other. IsAllowed f o other) others
    × AreConcurrent f d others

-- TP1 at one instance: each of the two operations has a form behind the other, which is enabled there,
-- and both ways give one document
pub record ConvergesAt (f : Function) (d : List Cell) (a b : Op) : Type 0 where
  pub b_after_a : Op
  pub a_after_b : Op
  pub b_transformed : transform_of f b a ≡ Some b_after_a
  pub a_transformed : transform_of f a b ≡ Some a_after_b
  pub b_enabled : IsEnabled b_after_a (length (document_after f.head.mode a d))
  pub a_enabled : IsEnabled a_after_b (length (document_after f.head.mode b d))
  pub one_document :
      document_after f.head.mode b_after_a (document_after f.head.mode a d)
      ≡ document_after f.head.mode a_after_b (document_after f.head.mode b d)

-- TP2 at one instance: the third operation has one form behind the first two, in whichever order
-- they were executed
pub record CommutesAt (f : Function) (a b c : Op) : Type 0 where
  pub b_after_a : Op
  pub a_after_b : Op
  pub c_after_a : Op
  pub c_after_b : Op
  pub c_after_both : Op
  pub b_transformed : transform_of f b a ≡ Some b_after_a
  pub a_transformed : transform_of f a b ≡ Some a_after_b
  pub c_by_a : transform_of f c a ≡ Some c_after_a
  pub c_by_b : transform_of f c b ≡ Some c_after_b
  pub c_by_a_then_b : transform_of f c_after_a b_after_a ≡ Some c_after_both
  pub c_by_b_then_a : transform_of f c_after_b a_after_b ≡ Some c_after_both

-- the same two ways with the two operations exchanged: TP1 is symmetric
abbrev pub converges_exchanged : (f : Function) (d : List Cell) (a b : Op) → ConvergesAt f d a b → ConvergesAt f d b a
converges_exchanged f d a b both = record {
  b_after_a = both.a_after_b;
  a_after_b = both.b_after_a;
  b_transformed = both.a_transformed;
  a_transformed = both.b_transformed;
  b_enabled = both.a_enabled;
  a_enabled = both.b_enabled;
  one_document = sym both.one_document;
}

-- the same forms with the first two operations exchanged: TP2 is symmetric in these
abbrev pub commutes_exchanged : (f : Function) (a b c : Op) → CommutesAt f a b c → CommutesAt f b a c
commutes_exchanged f a b c both = record {
  b_after_a = both.a_after_b;
  a_after_b = both.b_after_a;
  c_after_a = both.c_after_b;
  c_after_b = both.c_after_a;
  c_after_both = both.c_after_both;
  b_transformed = both.a_transformed;
  a_transformed = both.b_transformed;
  c_by_a = both.c_by_b;
  c_by_b = both.c_by_a;
  c_by_a_then_b = both.c_by_b_then_a;
  c_by_b_then_a = both.c_by_a_then_b;
}

-- the first transformation property
abbrev pub HasTp1 : Function → Type 0
HasTp1 f = (d : List Cell) (a b : Op) → AreConcurrent f d (a ∷ b ∷ []) → ConvergesAt f d a b

-- the second transformation property
abbrev pub HasTp2 : Function → Type 0
HasTp2 f = (d : List Cell) (a b c : Op) → AreConcurrent f d (a ∷ b ∷ c ∷ []) → CommutesAt f a b c

-- the first property on the documents of so many cells
abbrev pub HasTp1At : Function → ℕ → Type 0
HasTp1At f n = (d : List Cell) (a b : Op) → length d ≡ n → AreConcurrent f d (a ∷ b ∷ []) → ConvergesAt f d a b

-- the second property of operations that were made on the documents of so many cells
abbrev pub HasTp2At : Function → ℕ → Type 0
HasTp2At f n = (d : List Cell) (a b c : Op) → length d ≡ n → AreConcurrent f d (a ∷ b ∷ c ∷ []) → CommutesAt f a b c
