use Rattle.proof_writer.proofs.Extending.{ExtendsText-trans}
use Rattle.proof_writer.proofs.walk.PlanWalk.put_cycles.Goals as goal

pub literals-preserved : goal.literals-preserved
literals-preserved g c =
    let known = c.literals.invariant in
    record {
      front = ExtendsText-trans c.args.out.now.items c.literals.out.items c.put_cycle.new.out.items
          known.front c.put_cycle.ensures;
      present = known.present;
      waiting = known.waiting;
      left = known.left;
    }

pub returns-in_err-put_cycle-clause-front : goal.returns-in_err-put_cycle-clause-front
returns-in_err-put_cycle-clause-front g c =
    ExtendsText-trans c.args.out.now.items c.literals.out.items c.put_cycle.new.out.items
    c.literals.invariant.front c.put_cycle.ensures

pub returns-then-not-branch-clause-front : goal.returns-then-not-branch-clause-front
returns-then-not-branch-clause-front g c = c.literals.invariant.front
