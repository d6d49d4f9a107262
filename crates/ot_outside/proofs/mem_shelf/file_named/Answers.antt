use Rattle.std.proofs.Common.{sym, ◌∙◌}
use Rattle.ot_outside.proofs.FilesLemmas.{held_at}
use Rattle.ot_outside.proofs.mem_shelf.file_named.Goals as goal

pub returns-then-is_named : goal.returns-then-is_named
returns-then-is_named c =
    held_at _ _ _ c.index-files-i.result c.loop-i-test.true c.index-files-i.is
    (sym c.is_named.ensures ∙ c.if-is_named.true) c.loop-i.invariant
