use Rattle.proof_writer.specs.declared.place.WriterTask.TheVariants.{Part, Cycle, Learn}
use Rattle.proof_writer.proofs.Walking.{others_popped, others_taken}
use Rattle.proof_writer.proofs.walk.PlanWalk.next.Goals as goal

pub returns-in_ok-put_last_cycle-in-Some-Cycle-clause-nodes :
    goal.returns-in_ok-put_last_cycle-in-Some-Cycle-clause-nodes
returns-in_ok-put_last_cycle-in-Some-Cycle-clause-nodes g c =
    others_popped c.args.self.now c.pop.new.self.items (Cycle c.in-Some-Cycle.count)
    (rw c.in-Some-Cycle.field-0-is at c.in-Some-Cycle.ensures.items)

pub returns-in-Some-Learn-clause-nodes : goal.returns-in-Some-Learn-clause-nodes
returns-in-Some-Learn-clause-nodes g c =
    others_popped c.args.self.now c.pop.new.self.items (Learn c.in-Some-Learn.place)
    (rw c.in-Some-Learn.field-0-is at c.in-Some-Learn.ensures.items)

pub returns-then-not-take_last-clause-nodes : goal.returns-then-not-take_last-clause-nodes
returns-then-not-take_last-clause-nodes g c =
    others_popped c.args.self.now c.pop.new.self.items (Part c.in-Some-Part.place)
    (rw c.in-Some-Part.field-0-is at c.in-Some-Part.ensures.items)

pub returns-else-not-take_last-clause-nodes : goal.returns-else-not-take_last-clause-nodes
returns-else-not-take_last-clause-nodes g c =
    others_taken c.args.self.now c.pop.new.self.items c.in-Some-Part.place
    (rw c.in-Some-Part.field-0-is at c.in-Some-Part.ensures.items)
