use Rattle.proof_trees.specs.Starters.{KeepsStarts}
use Rattle.proof_search.specs.Owning.{AreOwnLemmas}
use Rattle.proof_writer.specs.Counting.{HasTaken}
use Rattle.proof_writer.specs.Nodes.{AreOwnNodes}
use Rattle.proof_writer.specs.Texts.{ExtendsText}
use Rattle.proof_writer.proofs.writing.walk_through.Given as goal

abbrev pub invariant-turns : goal.invariant-turns
invariant-turns g l = record {
  lemmas : AreOwnLemmas (g.A.Asker.is_own l.asker) l.lemmas;
  nodes : AreOwnNodes (g.A.Asker.is_own l.asker) l.walk;
  front : ExtendsText l.fn.out.items l.out.items;
  same : KeepsStarts (g.A.Asker.is_own l.fn.asker) (g.A.Asker.is_own l.asker) (g.A.Starter.starts l.fn.asker)
      (g.A.Starter.starts l.asker);
  taken : HasTaken l.questions l.walk.left (g.A.Starter.told l.fn.asker) (g.A.Starter.told l.asker) 0;
}
