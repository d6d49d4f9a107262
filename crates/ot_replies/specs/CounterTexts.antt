-- The lines of a counterexample. Texts are bytes; all but those of documents and characters are ASCII.
use Rattle.std.specs.Prelude.{ℕ, ◌+◌, List, [], ◌∷◌, ◌++◌, codes, encode_utf8_all}
use Rattle.std.specs.Fmt.{decimal, signed_decimal}
use Rattle.ot_model.specs.declared.op.Op.{Op}
use Rattle.ot_model.specs.declared.op.Op.TheVariants as ops
use Rattle.cert_text.specs.Spelling.{level_text}
use Rattle.case_json.specs.DocText.{char_text}
use Rattle.ot_questions.specs.declared.why.Why.{Why}
use Rattle.ot_questions.specs.declared.why.Why.TheVariants as why
use Rattle.ot_counter.specs.declared.counter.Counter.{Counter}
use Rattle.ot_counter.specs.declared.counter.WayResult.{WayResult}
use Rattle.ot_counter.specs.declared.counter.WayResult.TheVariants as ways
use Rattle.ot_replies.specs.DocumentTexts.{document_text}

-- how the property fails
abbrev pub why_word : Why → List ℕ
why_word why.Undefined = codes "undefined"
why_word why.OutOfRange = codes "range"
why_word why.Lengths = codes "lengths"
why_word (why.Cells left dead) = codes "cells"
why_word why.Operations = codes "operations"

-- an operation: its kind, its position, its character as in the text of a document, and its site
abbrev pub op_text : Op → List ℕ
op_text (ops.Ins at ch site) =
    codes "ins " ++ signed_decimal at ++ codes " " ++ encode_utf8_all (char_text ch) ++ codes " " ++ decimal site
op_text (ops.Del at site) = codes "del " ++ signed_decimal at ++ codes " " ++ decimal site
op_text (ops.Upd at ch site) =
    codes "upd " ++ signed_decimal at ++ codes " " ++ encode_utf8_all (char_text ch) ++ codes " " ++ decimal site
op_text ops.Nop = codes "nop"

-- what the interpreter gives on one way
abbrev pub way_text : WayResult → List ℕ
way_text ways.Undefined = codes "undefined"
way_text ways.OutOfRange = codes "range"
way_text (ways.Doc d) = document_text d
way_text (ways.Op o) = op_text o

-- a line of this text
abbrev pub line_of : List ℕ → List ℕ
line_of text = text ++ 10 ∷ []

-- a line for each operation, of which the first has this number
abbrev pub op_lines : ℕ → List Op → List ℕ
op_lines k [] = []
op_lines k (o ∷ others) = line_of (codes "op " ++ decimal k ++ codes " " ++ op_text o) ++ op_lines (k + 1) others

-- the property and the cause, the document, the operations, and what each of the two ways gives
abbrev pub counter_text : Counter → List ℕ
counter_text c =
    line_of (codes "no " ++ level_text c.level ++ codes " " ++ why_word c.why)
    ++ line_of (codes "doc " ++ document_text c.doc)
    ++ op_lines 1 c.ops ++ line_of (codes "left " ++ way_text c.left) ++ line_of (codes "right " ++ way_text c.right)
