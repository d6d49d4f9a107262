use Rattle.proof_writer.proofs.Walking.{begun_at}
use Rattle.proof_writer.proofs.walk.PlanWalk.learn.Goals as goal

pub returns-clause-nodes : goal.returns-clause-nodes
returns-clause-nodes g c =
    begun_at c.args.self.now c.args.at c.push-2.new.self.items c.push-3.new.self.items c.args.lemma
    c.in_ok-push-2.ensures.items c.in_ok-push-3.ensures.items
