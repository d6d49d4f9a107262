-- That a function lacks TP1, as two operations on a document show.
use Rattle.std.specs.Prelude.{◌≡◌, List, [], ◌∷◌}
use Rattle.ot_model.specs.declared.cell.Cell.{Cell}
use Rattle.ot_model.specs.declared.op.Op.{Op}
use Rattle.fn_rules.specs.Functions.{Function}
use Rattle.fn_rules.specs.Orders.{Outcome, Document}
use Rattle.fn_rules.specs.Properties.{AreConcurrent, ConvergesAt}

-- two operations that can be made at once on a document do not converge there
abbrev pub LacksTp1 : Function → Type 0
LacksTp1 f = (d : List Cell) × (a b : Op) × AreConcurrent f d (a ∷ b ∷ []) × ¬ ConvergesAt f d a b

-- both orders end with one document
abbrev pub IsOneEnd : Outcome → Outcome → Type 0
IsOneEnd left right = (d : List Cell) × (left ≡ Document d) × (right ≡ Document d)
