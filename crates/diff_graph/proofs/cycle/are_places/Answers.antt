use Rattle.std.proofs.Common.{arith, ap, is_some, sym}
use Rattle.diff_graph.proofs.Walks.{picked_past, picked_below}
use Rattle.diff_graph.proofs.cycle.are_places.Goals as goal

pub returns-then-pick-lits : goal.returns-then-pick-lits
returns-then-pick-lits c =
    sym (ap is_some (picked_past c.args.lits.now c.args.picks.now c.loop-pick.pick-index (omega arith) (omega arith)))

pub returns : goal.returns
returns c =
    sym (ap is_some (picked_below c.args.lits.now c.args.picks.now (λ i inside. c.loop-pick.invariant i (omega arith))))
