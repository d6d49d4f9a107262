use Rattle.std.specs.List.{All}
use Rattle.measures.proofs.questions.walk_from.Given as goal

abbrev pub invariant-loop-turn : goal.invariant-loop-turn
invariant-loop-turn g l = g.A.Asker.is_own l.asker l.node × All (g.A.Asker.is_own l.asker) l.waiting.items
