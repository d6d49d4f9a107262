use Rattle.std.proofs.Common.{take}
use Rattle.diff_graph.specs.Limits.{AreNamed, AreSmall}
use Rattle.ot_settle.proofs.ending.can_be_solved.Given as goal

abbrev pub invariant-loop-lit : goal.invariant-loop-lit
invariant-loop-lit l = record {
  named : AreNamed l.names (take l.lit-index l.lits);
  small : AreSmall (take l.lit-index l.lits);
}
