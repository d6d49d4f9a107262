use Rattle.std.proofs.Common.{◌≡◌}
use Rattle.ask_core.specs.Paths.{branches_at}
use Rattle.ot_prove.specs.Searching.{IsAsBefore, IsSearchUnderWay, weight_of}
use Rattle.ot_prove.proofs.proving.search_through.Given as goal

abbrev pub invariant-places : goal.invariant-places
invariant-places g l = record {
  kept : IsAsBefore (g.A.Asker.is_own l.fn.asker) (g.A.Asker.is_own l.asker)
      (g.A.Asker.plan l.fn.asker) (g.A.Asker.plan l.asker)
      (g.A.Asker.root l.fn.asker) (g.A.Asker.root l.asker) (g.A.Asker.name_count l.fn.asker)
      (g.A.Asker.name_count l.asker);
  front : l.search.tree.front ≡ l.fn.search.tree.front;
  searching : IsSearchUnderWay (g.A.Asker.is_own l.asker) (g.A.Asker.plan l.asker)
      (g.A.Asker.root l.asker) l.budget l.search;
}

abbrev pub decreases-places : goal.decreases-places
decreases-places g l = weight_of (branches_at (g.A.Asker.plan l.asker) l.search.path)
