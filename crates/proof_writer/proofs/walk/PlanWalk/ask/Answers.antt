use Rattle.proof_writer.proofs.Extending.{ExtendsText-trans}
use Rattle.proof_writer.proofs.Walking.{parts_of_yes, parts_of_both, pushed_on}
use Rattle.proof_writer.specs.declared.place.WriterTask.TheVariants.{Part}
use Rattle.proof_writer.proofs.walk.PlanWalk.ask.Goals as goal

pub returns-then-branch-2-clause-nodes : goal.returns-then-branch-2-clause-nodes
returns-then-branch-2-clause-nodes g c =
    parts_of_yes c.args.self.now c.args.yes c.args.no c.part-on_yes.result.node c.push.new.self.items _
    c.part-on_yes.ensures c.in_ok-push.ensures.items

pub returns-clause-nodes : goal.returns-clause-nodes
returns-clause-nodes g c =
    parts_of_both c.args.self.now c.args.yes c.args.no c.part-on_yes.result.node c.push-2.new.self.items
    c.part-on_no.result c.part-on_yes.ensures c.part-on_no.ensures
    (pushed_on c.args.self.now.waiting.items c.split.new.self.waiting.items c.push-2.new.self.items
    (Part c.part-on_no.result) c.in_ok-split.ensures.waiting c.in_ok-push-2.ensures.items)

pub returns-in_err-put_ask-clause-front : goal.returns-in_err-put_ask-clause-front
returns-in_err-put_ask-clause-front g c = c.put_ask.ensures

pub returns-in_err-put_cycle-clause-front : goal.returns-in_err-put_cycle-clause-front
returns-in_err-put_cycle-clause-front g c =
    ExtendsText-trans c.args.out.now.items c.put_ask.new.out.items c.put_cycle.new.out.items
    c.put_ask.ensures c.put_cycle.ensures

pub returns-then-branch-clause-front : goal.returns-then-branch-clause-front
returns-then-branch-clause-front g c =
    ExtendsText-trans c.args.out.now.items c.put_ask.new.out.items c.put_cycle.new.out.items
    c.put_ask.ensures c.put_cycle.ensures

pub returns-then-branch-2-clause-front : goal.returns-then-branch-2-clause-front
returns-then-branch-2-clause-front g c = c.put_ask.ensures

pub returns-in_err-push-clause-front : goal.returns-in_err-push-clause-front
returns-in_err-push-clause-front g c = c.put_ask.ensures

pub returns-in_err-split-clause-front : goal.returns-in_err-split-clause-front
returns-in_err-split-clause-front g c = c.put_ask.ensures

pub returns-in_err-push-2-clause-front : goal.returns-in_err-push-2-clause-front
returns-in_err-push-2-clause-front g c = c.put_ask.ensures

pub returns-clause-front : goal.returns-clause-front
returns-clause-front g c = c.put_ask.ensures

pub returns-in_err-extend_from_slice-clause-front : goal.returns-in_err-extend_from_slice-clause-front
returns-in_err-extend_from_slice-clause-front g c = c.put_ask.ensures
