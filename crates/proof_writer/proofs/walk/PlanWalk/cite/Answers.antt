use Rattle.std.proofs.Common.{◌∙◌}
use Rattle.proof_writer.proofs.Extending.{ExtendsText-trans}
use Rattle.proof_writer.proofs.Walking.{others_closed, others_kept}
use Rattle.proof_writer.proofs.walk.PlanWalk.cite.Goals as goal

pub returns-then-not-branch-clause-nodes : goal.returns-then-not-branch-clause-nodes
returns-then-not-branch-clause-nodes g c =
    others_kept c.args.self.now c.put_cycles.new.self c.in_ok-put_cycles.ensures.present
    c.in_ok-put_cycles.ensures.waiting

pub returns-then-not-branch-2-clause-nodes : goal.returns-then-not-branch-2-clause-nodes
returns-then-not-branch-2-clause-nodes g c =
    others_kept c.args.self.now c.put_cycles-2.new.self
    (c.in_ok-put_cycles-2.ensures.present ∙ c.in_ok-put_cycles.ensures.present)
    (c.in_ok-put_cycles-2.ensures.waiting ∙ c.in_ok-put_cycles.ensures.waiting)

pub returns-clause-nodes : goal.returns-clause-nodes
returns-clause-nodes g c =
    others_closed c.args.self.now c.put_cycles-2.new.self.waiting.items
    (c.in_ok-put_cycles-2.ensures.waiting ∙ c.in_ok-put_cycles.ensures.waiting)

pub returns-in_err-put-clause-front : goal.returns-in_err-put-clause-front
returns-in_err-put-clause-front g c = c.put.ensures

pub returns-in_err-put_cycles-clause-front : goal.returns-in_err-put_cycles-clause-front
returns-in_err-put_cycles-clause-front g c =
    ExtendsText-trans c.args.out.now.items c.put.new.out.items c.put_cycles.new.out.items c.put.ensures
    c.put_cycles.ensures.front

pub returns-then-not-branch-clause-front : goal.returns-then-not-branch-clause-front
returns-then-not-branch-clause-front g c =
    ExtendsText-trans c.args.out.now.items c.put.new.out.items c.put_cycles.new.out.items c.put.ensures
    c.put_cycles.ensures.front

pub returns-in_err-put_cycles-2-clause-front : goal.returns-in_err-put_cycles-2-clause-front
returns-in_err-put_cycles-2-clause-front g c =
    ExtendsText-trans c.args.out.now.items c.put_cycles.new.out.items c.put_cycles-2.new.out.items
    (ExtendsText-trans c.args.out.now.items c.put.new.out.items c.put_cycles.new.out.items c.put.ensures
    c.put_cycles.ensures.front) c.put_cycles-2.ensures.front

pub returns-then-not-branch-2-clause-front : goal.returns-then-not-branch-2-clause-front
returns-then-not-branch-2-clause-front g c =
    ExtendsText-trans c.args.out.now.items c.put_cycles.new.out.items c.put_cycles-2.new.out.items
    (ExtendsText-trans c.args.out.now.items c.put.new.out.items c.put_cycles.new.out.items c.put.ensures
    c.put_cycles.ensures.front) c.put_cycles-2.ensures.front

pub returns-clause-front : goal.returns-clause-front
returns-clause-front g c =
    ExtendsText-trans c.args.out.now.items c.put_cycles.new.out.items c.put_cycles-2.new.out.items
    (ExtendsText-trans c.args.out.now.items c.put.new.out.items c.put_cycles.new.out.items c.put.ensures
    c.put_cycles.ensures.front) c.put_cycles-2.ensures.front
