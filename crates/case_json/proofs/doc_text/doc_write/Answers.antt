use Rattle.std.proofs.Common.{◌++◌, List, ℕ, take, drop, ◌+◌, get_or, false, append_assoc, sym, ap, ◌∙◌, subst}
use Rattle.ot_model.specs.declared.cell.Cell.{Cell}
use Rattle.ot_outside.specs.Whole.{AppendsFront}
use Rattle.case_json.proofs.Writing.{doc_bytes, cell_bytes, doc_bytes-take_more, doc_bytes-around, front_of_rest}
use Rattle.case_json.proofs.Writing.{on_err}
use Rattle.case_json.proofs.doc_text.doc_write.Goals as goal

-- what the loop's item is where there is none
abbrev no_cell : Cell
no_cell = record { ch = 0; live = false }

-- what was written is a front of the text: the cells before this one, and a front of this one
pub returns-in_err-write_cell-clause-err : goal.returns-in_err-write_cell-clause-err
returns-in_err-write_cell-clause-err c =
    let doc : List Cell = c.cells-cell-items.result.now in
    let i : ℕ = c.loop-cell.cell-index in
    let old : List ℕ = c.args.out.now.items in
    let new : List ℕ = c.write_cell.new.out.items in
    let written : List ℕ = doc_bytes (take i doc) in
    let text : List ℕ = cell_bytes (get_or doc i no_cell) in
    let front : AppendsFront (old ++ written) text new =
    subst (λ (before : List ℕ). AppendsFront before text new) c.loop-cell.invariant
    c.in_err-write_cell.ensures.err in
    on_err c.from_residual.result
    (rw (← c.cells-cell-items.ensures) (front_of_rest old new (doc_bytes doc) written text
    (doc_bytes (drop (i + 1) doc)) (doc_bytes-around doc i no_cell c.loop-cell-test.true) front))

pub loop-cell-preserved : goal.loop-cell-preserved
loop-cell-preserved c =
    let doc : List Cell = c.cells-cell-items.result.now in
    let i : ℕ = c.loop-cell.cell-index in
    c.in_ok-write_cell.ensures.ok
    ∙ ap (λ (old : List ℕ). old ++ cell_bytes (get_or doc i no_cell)) c.loop-cell.invariant
    ∙ append_assoc c.args.out.now.items (doc_bytes (take i doc)) (cell_bytes (get_or doc i no_cell))
    ∙ ap (λ (written : List ℕ). c.args.out.now.items ++ written)
    (sym (doc_bytes-take_more doc i no_cell c.loop-cell-test.true))
