-- What the interpreter gives on the two ways of an instance: the first thing that goes wrong there, or the
-- document, or of a triple the operation.
use Rattle.std.specs.Prelude.{ℕ, ℤ, List, length, Option, Some, None, if◌then◌else◌}
use Rattle.ot_model.specs.declared.cell.Cell.{Cell}
use Rattle.ot_model.specs.declared.op.Op.{Op}
use Rattle.ot_model.specs.declared.op.Mode.{Mode}
use Rattle.ot_model.specs.Effect.{is_enabled, document_after}
use Rattle.fn_rules.specs.declared.function.ObName.{ObName}
use Rattle.fn_rules.specs.declared.function.ObName.TheVariants.{Pair, Triple}
use Rattle.fn_rules.specs.Functions.{Function}
use Rattle.fn_rules.specs.Transformation.{transform_of}
use Rattle.ot_questions.specs.declared.name.Who.TheVariants.{A, B, C}
use Rattle.ot_questions.specs.Places.{sym_op}
use Rattle.ot_questions.specs.Meaning.{op_at}
use Rattle.ot_questions.specs.Instances.{form_behind}
use Rattle.ot_counter.specs.declared.counter.WayResult.{WayResult}
use Rattle.ot_counter.specs.declared.counter.WayResult.TheVariants as ways

-- an operation executed where it is enabled
abbrev pub executed_way : Mode → List Cell → Op → WayResult
executed_way mode d o = if is_enabled o (length d) then ways.Doc (document_after mode o d) else ways.OutOfRange

-- a form executed, if there is one
abbrev pub executed_form : Mode → List Cell → Option Op → WayResult
executed_form mode d None = ways.Undefined
executed_form mode d (Some form) = executed_way mode d form

-- one operation executed, and then the form of another behind it
abbrev pub document_way : Function → List Cell → Op → Op → WayResult
document_way f d first other =
    executed_form f.head.mode (document_after f.head.mode first d) (transform_of f other first)

-- a form, if there is one
abbrev pub operation_result : Option Op → WayResult
operation_result None = ways.Undefined
operation_result (Some form) = ways.Op form

-- `a` and then `b`; of a triple the form of `c` behind them
abbrev pub left_at : Function → (ℕ → ℤ) → List Cell → ObName → WayResult
left_at f v d (Pair k l) = document_way f d (op_at v (sym_op k A)) (op_at v (sym_op l B))
left_at f v d (Triple k l m) = operation_result (form_behind f (op_at v (sym_op k A)) (op_at v (sym_op l B))
    (op_at v (sym_op m C)))

-- `b` and then `a`; of a triple the form of `c` behind them
abbrev pub right_at : Function → (ℕ → ℤ) → List Cell → ObName → WayResult
right_at f v d (Pair k l) = document_way f d (op_at v (sym_op l B)) (op_at v (sym_op k A))
right_at f v d (Triple k l m) = operation_result (form_behind f (op_at v (sym_op l B)) (op_at v (sym_op k A))
    (op_at v (sym_op m C)))
