use Rattle.std.proofs.Common.{length, refl, ap, arith}
use Rattle.proof_search.proofs.Owning.{items_kept, nodes_same}
use Rattle.proof_search.proofs.blame.mend_from.Goals as goal

pub returns-clause-places : goal.returns-clause-places
returns-clause-places g c = record {
  at = refl;
  levels =
      items_kept c.args.search.now.levels c.mend.new.levels
      (omega (arith, c.mend.auto.levels, ap length c.deref_mut.ensures.value))
      (rw c.deref_mut.ensures.value at c.mend.ensures.nodes);
  waiting = nodes_same c.args.search.now.waiting.items;
  lemmas = refl;
  asked = refl;
}
