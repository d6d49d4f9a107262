use Rattle.std.proofs.Common.{rules}
use Rattle.diff_graph.proofs.Walks.{place_below}
use Rattle.diff_graph.proofs.cycle.chain_into_a_cycle.Goals as goal

pub bounds-lits-picks : goal.bounds-lits-picks
bounds-lits-picks c = place_below c.args.lits.now c.args.picks.now (search rules) 0 (search rules)

pub bounds-lits-pick : goal.bounds-lits-pick
bounds-lits-pick c = place_below c.args.lits.now c.args.picks.now (search rules) _ c.loop-pick-test.true
