use Rattle.diff_graph.specs.Limits.{IsNamed, IsSmall}
use Rattle.ot_settle.proofs.Walks.{all_more}
use Rattle.ot_settle.proofs.ending.can_be_solved.Goals as goal

pub loop-lit-preserved : goal.loop-lit-preserved
loop-lit-preserved c =
    let fits = c.is_small_over-fits.ensures in
    record {
      named =
          all_more (λ l. IsNamed c.args.names l) c.args.lits.now c.loop-lit.lit-index c.loop-lit-test.true
          c.loop-lit.invariant.named (fits.named c.if-not-fits.false);
      small =
          all_more (λ l. IsSmall l) c.args.lits.now c.loop-lit.lit-index c.loop-lit-test.true c.loop-lit.invariant.small
          (fits.small c.if-not-fits.false);
    }
