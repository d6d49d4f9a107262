use Rattle.std.proofs.Common.{◌≡◌, length}
use Rattle.diff_graph.specs.Limits.{AreNamed, AreSmall}
use Rattle.measures.proofs.graphs.literals.Given as goal

abbrev pub invariant-loop-place : goal.invariant-loop-place
invariant-loop-place l = (length l.lits.items ≡ l._place) × (AreNamed 12 l.lits.items × AreSmall l.lits.items)
