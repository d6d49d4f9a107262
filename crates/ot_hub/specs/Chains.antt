-- Lists of operations that are executed one after the other, and what carrying comes to there.
use Rattle.std.specs.Prelude.{◌≡◌, List, [], ◌∷◌, length, Some}
use Rattle.std.specs.List.{AllByRecursion}
use Rattle.ot_model.specs.declared.cell.Cell.{Cell}
use Rattle.ot_model.specs.declared.op.Mode.{Mode}
use Rattle.ot_model.specs.declared.op.Op.{Op}
use Rattle.ot_model.specs.Effect.{document_after}
use Rattle.fn_rules.specs.Functions.{Function}
use Rattle.fn_rules.specs.Transformation.{IsAllowed}
use Rattle.fn_rules.specs.Conditions.{IsIntegrable}
use Rattle.ot_hub.specs.declared.placed.PlacedOp.{PlacedOp}
use Rattle.ot_hub.specs.Carry.{Carried, carry}

-- the document after operations, one after the other
abbrev pub document_after_all : Mode → List PlacedOp → List Cell → List Cell
document_after_all mode [] d = d
document_after_all mode (b ∷ bs) d = document_after_all mode bs (document_after mode b.op d)

-- each of the operations may be integrated on the document as it then stands
abbrev pub IsChain : Function → List Cell → List PlacedOp → Type 0
IsChain f d [] = Unit {0}
IsChain f d (b ∷ bs) = IsIntegrable f (length d) b.op × IsChain f (document_after f.head.mode b.op d) bs

-- an operation may be with each of the list
abbrev pub IsAllowedWith : Function → Op → List PlacedOp → Type 0
IsAllowedWith f o list = AllByRecursion (λ b. IsAllowed f o b.op) list

-- an operation was carried over a list, where both were made on one document: what each became may be integrated
-- after the other, and both ways lead to one document
pub record CarriesAcross (f : Function) (d : List Cell) (o : Op) (others : List PlacedOp) : Type 0 where
  pub carried : Carried
  pub is : carry f o others ≡ Some carried
  pub op : IsIntegrable f (length (document_after_all f.head.mode others d)) carried.op
  pub list : IsChain f (document_after f.head.mode o d) carried.list
  pub one_document :
      document_after_all f.head.mode carried.list (document_after f.head.mode o d)
      ≡ document_after f.head.mode carried.op (document_after_all f.head.mode others d)
  pub allowed : (other : Op) → IsAllowed f o other → IsAllowed f carried.op other
