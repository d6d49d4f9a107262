use Rattle.std.proofs.Common.{◌≡◌, take, string_bytes}
use Rattle.case_json.proofs.Writing.{doc_bytes}
use Rattle.ot_steps.proofs.case_line.doc_string.Given as goal

-- the cells so far were written
abbrev pub invariant-loop-cell : goal.invariant-loop-cell
invariant-loop-cell l = string_bytes l.text ≡ doc_bytes (take l.cell-index l.cell-items)
