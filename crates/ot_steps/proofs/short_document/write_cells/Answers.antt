use Rattle.std.proofs.Common.{List, ℕ, ◌++◌, ap, sym, ◌∙◌, append_assoc}
use Rattle.ot_steps.specs.ShortDocuments.{cells_text, one_cell_text}
use Rattle.ot_steps.proofs.Repeated.{cells_text-more}
use Rattle.ot_steps.proofs.short_document.write_cells.Goals as goal

pub loop-done-preserved : goal.loop-done-preserved
loop-done-preserved c =
    let old : List ℕ = c.args.out.now.items in
    let text : List ℕ = one_cell_text c.args.cell in
    c.in_ok-write_cell.ensures ∙ ap (λ (l : List ℕ). l ++ text) c.loop-done.invariant
    ∙ append_assoc old (cells_text c.loop-done.done c.args.cell) text
    ∙ ap (λ (l : List ℕ). old ++ l) (sym (cells_text-more c.loop-done.done c.args.cell))
