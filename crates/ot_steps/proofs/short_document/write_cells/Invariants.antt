use Rattle.std.proofs.Common.{◌≡◌, ◌++◌}
use Rattle.ot_steps.specs.ShortDocuments.{cells_text}
use Rattle.ot_steps.proofs.short_document.write_cells.Given as goal

-- so many cells were written
abbrev pub invariant-loop-done : goal.invariant-loop-done
invariant-loop-done l = l.out.items ≡ l.initial.out.items ++ cells_text l.done l.cell
