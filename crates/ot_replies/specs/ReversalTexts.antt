-- The lines of whether one function takes back what another one makes.
use Rattle.std.specs.Prelude.{ℕ, List, [], ◌∷◌, ◌++◌, codes, Option, Some, None}
use Rattle.ot_model.specs.declared.cell.Cell.{Cell}
use Rattle.ot_model.specs.declared.op.Op.{Op}
use Rattle.ot_counter.specs.Ways.{operation_result}
use Rattle.ot_audit.specs.declared.back.Back.{Back}
use Rattle.ot_audit.specs.declared.back.Back.TheVariants as backs
use Rattle.ot_replies.specs.AuditTexts.{spent_text}
use Rattle.ot_replies.specs.CounterTexts.{line_of, op_lines, way_text}
use Rattle.ot_replies.specs.DocumentTexts.{document_text}

-- whether all is taken back, or a question list is too long
abbrev pub reversal_status : Back → ℕ
reversal_status backs.Yes = 0
reversal_status (backs.No doc a b there back) = 1
reversal_status backs.Spent = 8

-- why an operation is not taken back: it has no form, or nothing comes back, or another operation does
abbrev pub loss_word : Option Op → Option Op → List ℕ
loss_word None back = codes "undefined"
loss_word (Some there) None = codes "undefined"
loss_word (Some there) (Some back) = codes "operations"

-- the cause, the document, the operations, what becomes of the first one, and what comes back
abbrev pub loss_text : List Cell → List Op → Option Op → Option Op → List ℕ
loss_text doc ops there back =
    line_of (codes "no reverse " ++ loss_word there back) ++ line_of (codes "doc " ++ document_text doc)
    ++ op_lines 1 ops
    ++ line_of (codes "there " ++ way_text (operation_result there))
    ++ line_of (codes "back " ++ way_text (operation_result back))

-- whether all is taken back, or where it is not
abbrev pub reversal_text : Back → List ℕ
reversal_text backs.Yes = codes "reversed" ++ 10 ∷ []
reversal_text (backs.No doc a b there back) = loss_text doc (a ∷ b ∷ []) there back
reversal_text backs.Spent = spent_text

-- the functions are of different modes or for different kinds
abbrev pub unlike_text : List ℕ
unlike_text = codes "differ head" ++ 10 ∷ []
