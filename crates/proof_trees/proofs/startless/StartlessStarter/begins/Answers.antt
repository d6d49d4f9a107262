use Rattle.proof_trees.proofs.NoStarts.{start_of-startless}
use Rattle.proof_trees.proofs.startless.StartlessStarter.begins.Goals as goal

pub returns : goal.returns
returns g c = start_of-startless (Unit {0}) (g.A.Asker.plan c.args.self.now.inner c.args._node)
