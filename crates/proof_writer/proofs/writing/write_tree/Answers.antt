use Rattle.proof_writer.proofs.Walking.{root_kept}
use Rattle.proof_writer.proofs.writing.write_tree.Goals as goal

pub returns-clause-root : goal.returns-clause-root
returns-clause-root g c =
    root_kept (g.A.Starter.starts c.args.asker.now) (g.A.Starter.starts c.walk_through.new.asker) _ _
    (g.met.A.Starter.whole c.args.asker.now) (g.met.A.Starter.whole c.walk_through.new.asker)
    c.walk_through.ensures.same.root
