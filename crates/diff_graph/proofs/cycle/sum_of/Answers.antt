use Rattle.std.proofs.Common.{arith, rules, get_or, FitsSigned, w32}
use Rattle.std.proofs.lemmas.Int.{ints}
use Rattle.diff_graph.specs.Cycles.{literal_at}
use Rattle.diff_graph.proofs.Walks.{place_below, weight-drop}
use Rattle.diff_graph.proofs.cycle.sum_of.Goals as goal

pub bounds-lits-pick : goal.bounds-lits-pick
bounds-lits-pick c = place_below c.args.lits.now c.args.picks.now (search rules) _ c.loop-pick-test.true

pub loop-pick-preserved : goal.loop-pick-preserved
loop-pick-preserved c =
    let next = weight-drop c.args.lits.now c.args.picks.now c.loop-pick.pick-index c.loop-pick-test.true in
    let fits : FitsSigned w32 (literal_at c.args.lits.now (get_or c.args.picks.now c.loop-pick.pick-index 0)).k =
    search rules in
    (omega (arith, ints), omega (arith, ints), omega (arith, ints))
