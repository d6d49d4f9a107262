use Rattle.std.proofs.Common.{List, ℕ, ◌++◌, get_or, false, ap, sym, ◌∙◌}
use Rattle.ot_model.specs.declared.cell.Cell.{Cell}
use Rattle.case_json.proofs.Writing.{cell_bytes, doc_bytes-take_more}
use Rattle.ot_steps.proofs.case_line.doc_string.Goals as goal

-- what the loop's item is where there is none
abbrev no_cell : Cell
no_cell = record { ch = 0; live = false }

pub loop-cell-preserved : goal.loop-cell-preserved
loop-cell-preserved c =
    let doc : List Cell = c.cells-cell-items.result.now in
    c.in_ok-push_cell.ensures
    ∙ ap (λ (old : List ℕ). old ++ cell_bytes (get_or doc c.loop-cell.cell-index no_cell)) c.loop-cell.invariant
    ∙ sym (doc_bytes-take_more doc c.loop-cell.cell-index no_cell c.loop-cell-test.true)
