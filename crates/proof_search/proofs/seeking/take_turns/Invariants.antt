use Rattle.std.proofs.Common.{◌≤◌}
use Rattle.proof_trees.specs.Starters.{KeepsStarts}
use Rattle.proof_search.specs.Counting.{HasAsked}
use Rattle.proof_search.specs.Owning.{IsOwnSearch}
use Rattle.proof_search.proofs.seeking.take_turns.Given as goal

abbrev pub invariant-turns : goal.invariant-turns
invariant-turns g l = record {
  within : l.search.asked ≤ l.budget;
  own : IsOwnSearch (g.A.Asker.is_own l.asker) l.search;
  same : KeepsStarts (g.A.Asker.is_own l.fn.asker) (g.A.Asker.is_own l.asker) (g.A.Starter.starts l.fn.asker)
      (g.A.Starter.starts l.asker);
  asked : HasAsked l.budget l.fn.search.asked l.search.asked (g.A.Starter.told l.fn.asker) (g.A.Starter.told l.asker) 0;
}
