use Rattle.test_layers.proofs.starts.node_after.Given as goal

abbrev pub invariant-loop-answer : goal.invariant-loop-answer
invariant-loop-answer g l = record {
  own : g.A.Asker.is_own l.asker l.node;
  kept : (n : g.row.A-Node.Denot) → g.A.Asker.is_own l.fn.asker n → g.A.Asker.is_own l.asker n;
}
