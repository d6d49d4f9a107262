use Rattle.std.proofs.Common.{◌≡◌, ◌++◌, map, take}
use Rattle.ot_mend.specs.declared.edit.Edit.TheVariants.{InBlock}
use Rattle.ot_mend.proofs.offer.push_in_block.Given as goal

abbrev pub invariant-loop-change : goal.invariant-loop-change
invariant-loop-change l =
    l.out.items ≡ l.initial.out.items ++ map (InBlock l.first l.second) (take l.change-index l.changes)
