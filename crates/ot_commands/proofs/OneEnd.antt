-- Two operations that converge on a document end with one document in both orders.
use Rattle.std.proofs.Common.{◌≡◌, ℕ, true, List, [], ◌∷◌, length, Some, refl, sym, ◌∙◌}
use Rattle.ot_model.specs.declared.cell.Cell.{Cell}
use Rattle.ot_model.specs.declared.op.Op.{Op}
use Rattle.ot_model.specs.Effect.{IsEnabled, is_enabled, document_after}
use Rattle.fn_rules.specs.Functions.{Function}
use Rattle.fn_rules.specs.Transformation.{transform_of}
use Rattle.fn_rules.specs.Properties.{AreConcurrent, ConvergesAt}
use Rattle.fn_rules.specs.Orders.{Outcome, Document, integrated, outcome_from}
use Rattle.ot_commands.specs.Found.{IsOneEnd, LacksTp1}

-- one operation is executed, and then the form of another one behind it
one_way : (f : Function) (d : List Cell) (a b form : Op) → is_enabled a (length d) ≡ true
    → transform_of f b a ≡ Some form → is_enabled form (length (document_after f.head.mode a d)) ≡ true
    → outcome_from f d [] 0 (a ∷ b ∷ []) ≡ Document (document_after f.head.mode form (document_after f.head.mode a d))
one_way f d a b form first is enabled = rw (first, is, enabled) refl

-- where both orders do not end with one document, the first property fails there
pub lacks_tp1 :
    (f : Function) (d : List Cell) (a b : Op) (left right : Outcome)
    → ((n : ℕ) (o : Op) → IsEnabled o n → is_enabled o n ≡ true)
    → left ≡ integrated f d (a ∷ b ∷ []) (0 ∷ 1 ∷ []) → right ≡ integrated f d (a ∷ b ∷ []) (1 ∷ 0 ∷ [])
    → AreConcurrent f d (a ∷ b ∷ []) → ¬ IsOneEnd left right → LacksTp1 f
lacks_tp1 f d a b left right tested is_left is_right concurrent apart = (
  d,
  a,
  b,
  concurrent,
  λ both.
      apart (
        document_after f.head.mode both.b_after_a (document_after f.head.mode a d),
        is_left ∙ one_way f d a b both.b_after_a (tested _ a concurrent.1) both.b_transformed
            (tested _ both.b_after_a both.b_enabled),
        is_right ∙ (one_way f d b a both.a_after_b (tested _ b concurrent.3.1) both.a_transformed
            (tested _ both.a_after_b both.a_enabled) ∙ rw both.one_document refl),
      ),
)
