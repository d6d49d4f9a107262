use Rattle.std.proofs.Common.{arith}
use Rattle.diff_tables.proofs.FloorsBeyond.{AreNamed-more}
use Rattle.diff_tables.proofs.AddingSteps.{All-at}
use Rattle.diff_graph.specs.Limits.{IsNamed}
use Rattle.diff_tables.proofs.floors.name_count.Goals as goal

pub loop-lit-preserved : goal.loop-lit-preserved
loop-lit-preserved c = (
  omega (arith, c.loop-lit.invariant.0, c.more_names-count.ensures.kept),
  c.more_names-count.ensures.few,
  AreNamed-more c.loop-lit.count c.more_names-count.result c.args.lits.now c.loop-lit.lit-index c.loop-lit-test.true
      c.more_names-count.ensures.kept c.loop-lit.invariant.2 c.more_names-count.ensures.named,
  λ n some named.
      c.more_names-count.ensures.fewest n (c.loop-lit.invariant.3 n some named)
      (All-at (λ l. IsNamed n l) c.args.lits.now c.loop-lit.lit-index named c.loop-lit-test.true),
)
