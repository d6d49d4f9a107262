use Rattle.std.proofs.lemmas.List.{take_rest}
use Rattle.ot_outside.proofs.FilesLemmas.{drop-split}
use Rattle.ot_outside.proofs.mem_shelf.take_next.Goals as goal

pub returns-clause-split : goal.returns-clause-split
returns-clause-split c =
    let front = rw (take_rest c.args.contents.now c.min-from.result) at c.copy_front-count.ensures.front in
    drop-split _ _ _ _ _ c.min-from.ensures front
