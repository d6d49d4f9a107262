use Rattle.std.proofs.Common.{◌≡◌}
use Rattle.proof_trees.specs.Starters.{KeepsStarts}
use Rattle.proof_search.specs.Owning.{AreOwnLemmas}
use Rattle.proof_search.proofs.service.serving_of.Given as goal

abbrev pub invariant-places : goal.invariant-places
invariant-places g l = record {
  lemmas : AreOwnLemmas (g.A.Asker.is_own l.asker) l.lemmas;
  here : g.A.Asker.is_own l.asker l.here;
  same : KeepsStarts (g.A.Asker.is_own l.fn.asker) (g.A.Asker.is_own l.asker) (g.A.Starter.starts l.fn.asker)
      (g.A.Starter.starts l.asker);
  told : g.A.Starter.told l.asker ≡ g.A.Starter.told l.fn.asker;
}
