use Rattle.std.proofs.Common.{◌≡◌, ◌++◌, take}
use Rattle.case_json.proofs.Writing.{doc_bytes}
use Rattle.case_json.proofs.doc_text.doc_write.Given as goal

-- the cells so far were written
abbrev pub invariant-loop-cell : goal.invariant-loop-cell
invariant-loop-cell l = l.out.items ≡ l.initial.out.items ++ doc_bytes (take l.cell-index l.cell-items)
