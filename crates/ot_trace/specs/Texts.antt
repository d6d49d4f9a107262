-- The lines of a trace. Texts are bytes; all but those of documents and characters are ASCII.
use Rattle.std.specs.Prelude.{ℕ, ◌+◌, unsigned_abs, List, [], ◌∷◌, ◌++◌, codes}
use Rattle.std.specs.Fmt.{decimal}
use Rattle.std.specs.List.{flat_map}
use Rattle.ot_model.specs.declared.cell.Cell.{Cell}
use Rattle.ot_model.specs.declared.op.Op.{Op}
use Rattle.ot_model.specs.Operations.{at_of}
use Rattle.case_json.specs.declared.trial.Trial.{Trial}
use Rattle.fn_rules.specs.Functions.{Function}
use Rattle.ot_ways.specs.declared.one_step.Step.{Step}
use Rattle.ot_trace.specs.Columns.{columns, two_columns}
use Rattle.ot_trace.specs.Orders.{OpEnd, Executed, NoForm, NotEnabled, OpTrace, order_trace}
use Rattle.ot_steps.specs.ShortDocuments.{short_document}
use Rattle.ot_steps.specs.StepTexts.{choice_text, result_text, short_op}

-- an operation of an order, with its number
abbrev pub op_line : ℕ → Op → List ℕ
op_line i o = two_columns (codes "op " ++ decimal i) (short_op o)

-- one transformation: over what, what came of it, and the case that was taken
abbrev pub step_line : Function → Step → List ℕ
step_line f s =
    columns (codes "  over " ++ short_op s.against) (result_text s.result) (choice_text f s.result s.taken)

-- an operation was executed, and this is the document after it
abbrev pub done_line : Op → List Cell → List ℕ
done_line p d = columns (codes "  done") (short_op p) (short_document (unsigned_abs (at_of p)) d)

-- what came of an operation
abbrev pub end_line : OpEnd → List ℕ
end_line (Executed p d) = done_line p d
end_line NoForm = two_columns (codes "  stuck") (codes "undefined")
end_line (NotEnabled p cells) =
    columns (codes "  stuck") (short_op p) (codes "not enabled on " ++ decimal cells ++ codes " cells")

-- an operation of an order: as it was made, how it was carried, and what came of it
abbrev pub op_lines : Function → OpTrace → List ℕ
op_lines f t = op_line t.number t.op ++ flat_map (step_line f) t.steps ++ end_line t.end

-- the line of an order, and then its operations
abbrev pub order_text : Function → ℕ → List OpTrace → List ℕ
order_text f i ts = (codes "order " ++ decimal i ++ 10 ∷ []) ++ flat_map (op_lines f) ts

-- the orders of a case, of which the first has this number
abbrev pub orders_text : Function → List Cell → List Op → ℕ → List (List ℕ) → List ℕ
orders_text f d ops i [] = []
orders_text f d ops i (order ∷ others) =
    order_text f i (order_trace f d ops order) ++ orders_text f d ops (i + 1) others

-- a case, order by order
abbrev pub case_trace_text : Function → Trial → List ℕ
case_trace_text f trial = orders_text f trial.doc trial.ops 0 trial.orders
