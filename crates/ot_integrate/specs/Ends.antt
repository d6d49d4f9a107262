-- The outcome that an answer is, and which outcome no order changes.
use Rattle.std.specs.Prelude.{◌≡◌, ℕ, List, length}
use Rattle.std.specs.List.{range_with_len}
use Rattle.ot_model.specs.declared.cell.Cell.{Cell}
use Rattle.ot_model.specs.declared.op.Op.{Op}
use Rattle.fn_rules.specs.Functions.{Function}
use Rattle.fn_rules.specs.Orders.{Outcome, Document, StuckAt, integrated}
use Rattle.ot_integrate.specs.declared.end.End.{End}
use Rattle.ot_integrate.specs.declared.end.End.TheVariants as ends

-- the outcome of an end
abbrev pub outcome_of : End → Outcome
outcome_of (ends.Doc doc) = Document doc
outcome_of (ends.Stuck place) = StuckAt place

-- the order in which the operations are listed: 0, 1, 2 and so on
abbrev pub listed_order : List Op → List ℕ
listed_order ops = range_with_len 0 (length ops)

-- the outcome is a document, and the listed order ends with it
abbrev pub EndsAsListed : Function → List Cell → List Op → Outcome → Type 0
EndsAsListed f d ops outcome =
    (end : List Cell) × (outcome ≡ Document end) × (integrated f d ops (listed_order ops) ≡ Document end)
