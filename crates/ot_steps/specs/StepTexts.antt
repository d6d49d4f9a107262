-- The lines of both ways of a counterexample, and where they differ. Texts are bytes; all but those of documents and
-- characters are ASCII.
use Rattle.std.specs.Prelude.{ℕ, unsigned_abs, List, [], ◌∷◌, ◌++◌, slice_get, codes, encode_utf8_all}
use Rattle.std.specs.Prelude.{Option, Some, None}
use Rattle.std.specs.Fmt.{decimal, signed_decimal}
use Rattle.ot_model.specs.declared.cell.Cell.{Cell}
use Rattle.ot_model.specs.declared.op.Op.{Op}
use Rattle.ot_model.specs.declared.op.Op.TheVariants as ops
use Rattle.ot_model.specs.Operations.{at_of}
use Rattle.fn_rules.specs.Functions.{Function, GuardedCase}
use Rattle.fn_grammar.specs.Print.{printed_case}
use Rattle.cert_text.specs.Spelling.{kind_text}
use Rattle.case_json.specs.DocText.{char_text}
use Rattle.ot_counter.specs.declared.counter.WayResult.{WayResult}
use Rattle.ot_counter.specs.declared.counter.WayResult.TheVariants as results
use Rattle.ot_steps.specs.declared.lines.Label.{Label}
use Rattle.ot_steps.specs.declared.lines.Label.TheVariants.{Made, After, Both}
use Rattle.ot_ways.specs.declared.one_step.Step.{Step}
use Rattle.ot_ways.specs.declared.taken_case.Taken.{Taken}
use Rattle.ot_ways.specs.declared.ways.BothWays.{BothWays}
use Rattle.ot_ways.specs.declared.ways.BothWays.TheVariants.{Pair, Triple}
use Rattle.ot_ways.specs.declared.ways.DocumentWay.{DocumentWay}
use Rattle.ot_ways.specs.declared.ways.OperationWay.{OperationWay}
use Rattle.ot_steps.specs.declared.columns.TheConstants.{LABEL, OPERATION, DOCUMENT}
use Rattle.ot_steps.specs.Columns.{padded}
use Rattle.ot_ways.specs.Differences.{difference_of}
use Rattle.ot_steps.specs.ShortDocuments.{one_cell_text, short_document}
use Rattle.ot_ways.specs.Taken.{case_named}

-- an operation without its site: its kind, its position, and its character as in the text of a document
abbrev pub short_op : Op → List ℕ
short_op (ops.Ins at ch site) = codes "ins " ++ signed_decimal at ++ codes " " ++ encode_utf8_all (char_text ch)
short_op (ops.Del at site) = codes "del " ++ signed_decimal at
short_op (ops.Upd at ch site) = codes "upd " ++ signed_decimal at ++ codes " " ++ encode_utf8_all (char_text ch)
short_op ops.Nop = codes "nop"

-- what a transformation comes to
abbrev pub result_text : Option Op → List ℕ
result_text None = codes "undefined"
result_text (Some o) = short_op o

-- the canonical text of a case whose first operation is of this kind, if there is the case
abbrev pub named_case_text : Function → Taken → Option GuardedCase → List ℕ
named_case_text f t None = []
named_case_text f t (Some c) = printed_case t.first c

-- a case: the kinds of its block, its number, and its canonical text
abbrev pub taken_text : Function → Taken → List ℕ
taken_text f t =
    kind_text t.first ++ codes " " ++ kind_text t.second ++ codes " " ++ decimal t.number ++ codes ": "
    ++ named_case_text f t (case_named f t)

-- that no case is taken: there is none whose guard is true, or none is asked, since one of the operations is nop
abbrev pub untaken_text : Option Op → List ℕ
untaken_text None = codes "no case"
untaken_text (Some o) = codes "nop"

-- the case that is taken, or that none is
abbrev pub choice_text : Function → Option Op → Option Taken → List ℕ
choice_text f result None = untaken_text result
choice_text f result (Some t) = taken_text f t

-- the document after an operation, shortened around its position, or that there is no such position
abbrev pub end_text : Option Op → WayResult → List ℕ
end_text None end = []
end_text (Some o) results.Undefined = []
end_text (Some o) results.OutOfRange = codes "range"
end_text (Some o) (results.Doc d) = short_document (unsigned_abs (at_of o)) d
end_text (Some o) (results.Op p) = []

-- what a line is about: an operation as it was made, one that was transformed against another one, or the third
-- operation, transformed against the first two
abbrev pub label_text : Label → List ℕ
label_text (Made n) = codes "op " ++ decimal n
label_text (After n m) = codes "op " ++ decimal n ++ codes " after op " ++ decimal m
label_text Both = codes "op 3 after both"

-- a line of a way
abbrev pub way_line : List ℕ → List ℕ
way_line text = codes "  " ++ text ++ 10 ∷ []

-- the line of a transformation
abbrev pub step_line : Function → Label → Step → List ℕ
step_line f label s =
    way_line (padded LABEL (label_text label) ++ padded OPERATION (result_text s.result)
    ++ choice_text f s.result s.taken)

-- the line of an operation that is executed as it was made
abbrev pub made_line : Label → Op → List Cell → List ℕ
made_line label o d =
    way_line (padded LABEL (label_text label) ++ padded OPERATION (short_op o)
    ++ short_document (unsigned_abs (at_of o)) d)

-- the line of an operation that is transformed and executed
abbrev pub executed_line : Function → Label → Step → WayResult → List ℕ
executed_line f label s end =
    way_line (padded LABEL (label_text label) ++ padded OPERATION (result_text s.result)
    ++ padded DOCUMENT (end_text s.result end)
    ++ choice_text f s.result s.taken)

-- the operation `n` and then the operation `m`
abbrev pub document_way_text : Function → ℕ → ℕ → DocumentWay → List ℕ
document_way_text f n m way =
    made_line (Made n) way.first way.doc ++ executed_line f (After m n) way.other way.end

-- the line of the third operation against the second, where there is such a transformation
abbrev pub both_line : Function → Option Step → List ℕ
both_line f None = []
both_line f (Some s) = step_line f Both s

-- the third operation against `n` and then `m`
abbrev pub operation_way_text : Function → ℕ → ℕ → OperationWay → List ℕ
operation_way_text f n m way =
    step_line f (After m n) way.second ++ step_line f (After 3 n) way.third ++ both_line f way.both

-- a cell of a document, or that it has ended
abbrev pub cell_or_nothing : Option Cell → List ℕ
cell_or_nothing None = codes "nothing"
cell_or_nothing (Some c) = one_cell_text c

-- the first place at which two documents differ, if there is one, and what they have there
abbrev pub difference_line : List Cell → List Cell → Option ℕ → List ℕ
difference_line left right None = []
difference_line left right (Some place) =
    codes "differ at " ++ decimal place ++ codes ": " ++ cell_or_nothing (slice_get left place) ++ codes ", "
    ++ cell_or_nothing (slice_get right place) ++ 10 ∷ []

-- where both ways have a document: the first place at which these differ
abbrev pub documents_line : WayResult → WayResult → List ℕ
documents_line (results.Doc left) (results.Doc right) = difference_line left right (difference_of left right)
documents_line left right = []

-- what the last transformation of a way comes to, if there is one
abbrev pub last_result : Option Step → Option Op
last_result None = None
last_result (Some s) = s.result

-- where both ways have an operation: these two
abbrev pub operations_line : Option Op → Option Op → List ℕ
operations_line None right = []
operations_line (Some o) None = []
operations_line (Some o) (Some p) = codes "differ: " ++ short_op o ++ codes ", " ++ short_op p ++ 10 ∷ []

-- that both orders end with one document all the same
abbrev pub one_end_line : Option (List Cell) → List ℕ
one_end_line None = []
one_end_line (Some d) = codes "on this document both orders end with " ++ short_document 0 d ++ 10 ∷ []

-- the line above a way
abbrev pub side_line : List ℕ → List ℕ
side_line side = side ++ 10 ∷ []

-- both ways, and where they differ
abbrev pub ways_text : Function → BothWays → List ℕ
ways_text f (Pair left right) =
    side_line (codes "left") ++ document_way_text f 1 2 left ++ side_line (codes "right")
    ++ document_way_text f 2 1 right
    ++ documents_line left.end right.end
ways_text f (Triple left right one_end) =
    side_line (codes "left") ++ operation_way_text f 1 2 left ++ side_line (codes "right")
    ++ operation_way_text f 2 1 right ++ operations_line (last_result left.both) (last_result right.both)
    ++ one_end_line one_end
