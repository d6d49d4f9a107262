use Rattle.proof_search.proofs.Beginning.{root_kept}
use Rattle.proof_search.proofs.seeking.search.Goals as goal

pub returns-clause-root : goal.returns-clause-root
returns-clause-root g c =
    root_kept (g.A.Asker.root c.args.asker.now) (g.A.Asker.root c.seek.new.asker)
    (g.met.A.Starter.whole c.args.asker.now) (g.met.A.Starter.whole c.seek.new.asker) c.seek.ensures.same
