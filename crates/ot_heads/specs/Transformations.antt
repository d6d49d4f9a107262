-- Transformations as such, in whatever way they are computed, and what the two properties say of them. The properties
-- of a function of the language are those of the transformation that it is.
use Rattle.std.specs.Prelude.{◌≡◌, List, [], ◌∷◌, length, Option, Some}
use Rattle.ot_model.specs.declared.cell.Cell.{Cell}
use Rattle.ot_model.specs.declared.op.Mode.{Mode}
use Rattle.ot_model.specs.declared.op.Op.{Op}
use Rattle.ot_model.specs.Effect.{IsEnabled, document_after}
use Rattle.fn_rules.specs.declared.function.Head.{Head}
use Rattle.fn_rules.specs.Conditions.{IsFormOf}
use Rattle.fn_rules.specs.Functions.{Function}
use Rattle.fn_rules.specs.Properties.{AreConcurrent}

-- what the first of two operations becomes behind the second: an operation, or none
abbrev pub Transformation : Type 0
Transformation = Op → Op → Option Op

-- what it makes of an operation is nop, or of the same kind, site and character, at any position
abbrev pub KeepsOperations : Transformation → Type 0
KeepsOperations t = (a b form : Op) → t a b ≡ Some form → IsFormOf a form

-- a function of the head: which operations are concurrent for a function, its head alone says
abbrev pub function_with : Head → Function
function_with head = record { head = head; cases = λ k l. [] }

-- TP1 of a transformation at one instance, where deletions leave what the mode says
pub record ConvergesUnder (mode : Mode) (t : Transformation) (d : List Cell) (a b : Op) : Type 0 where
  pub b_after_a : Op
  pub a_after_b : Op
  pub b_transformed : t b a ≡ Some b_after_a
  pub a_transformed : t a b ≡ Some a_after_b
  pub b_enabled : IsEnabled b_after_a (length (document_after mode a d))
  pub a_enabled : IsEnabled a_after_b (length (document_after mode b d))
  pub one_document :
      document_after mode b_after_a (document_after mode a d)
      ≡ document_after mode a_after_b (document_after mode b d)

-- TP2 of a transformation at one instance
pub record CommutesUnder (t : Transformation) (a b c : Op) : Type 0 where
  pub b_after_a : Op
  pub a_after_b : Op
  pub c_after_a : Op
  pub c_after_b : Op
  pub c_after_both : Op
  pub b_transformed : t b a ≡ Some b_after_a
  pub a_transformed : t a b ≡ Some a_after_b
  pub c_by_a : t c a ≡ Some c_after_a
  pub c_by_b : t c b ≡ Some c_after_b
  pub c_by_a_then_b : t c_after_a b_after_a ≡ Some c_after_both
  pub c_by_b_then_a : t c_after_b a_after_b ≡ Some c_after_both

-- the first property of a transformation, for the operations of a head
abbrev pub HasTp1Of : Head → Transformation → Type 0
HasTp1Of head t =
    (d : List Cell) (a b : Op) → AreConcurrent (function_with head) d (a ∷ b ∷ []) → ConvergesUnder head.mode t d a b

-- the second property of a transformation, for the operations of a head
abbrev pub HasTp2Of : Head → Transformation → Type 0
HasTp2Of head t =
    (d : List Cell) (a b c : Op) → AreConcurrent (function_with head) d (a ∷ b ∷ c ∷ []) → CommutesUnder t a b c
