use Rattle.std.proofs.lemmas.Result.{on_ok_weaker, IfOk-weaker}
use Rattle.proof_writer.proofs.Walking.{nodes_kept, own_others, own_parts}
use Rattle.proof_writer.specs.Counting.{TakesNone}
use Rattle.proof_writer.proofs.Counting.{step_tells_none}
use Rattle.proof_writer.proofs.writing.follow.Goals as goal

pub returns-in_err-lit-clause-same : goal.returns-in_err-lit-clause-same
returns-in_err-lit-clause-same g c = c.follow.ensures.same

pub returns-in-Ask-clause-front : goal.returns-in-Ask-clause-front
returns-in-Ask-clause-front g c = c.ask.ensures.front

pub returns-in-Ask-clause-nodes : goal.returns-in-Ask-clause-nodes
returns-in-Ask-clause-nodes g c =
    let begins = rw c.in-Ask.is at c.in_ok-lit.ensures.begins in
    on_ok_weaker c.ask.result
    (own_parts c.args.walk.now c.ask.new.self (g.A.Asker.is_own c.follow.new.self)
    (nodes_kept c.follow.ensures.same c.args.walk.now c.requires.nodes) c.in-Ask.yes c.in-Ask.no begins.0 begins.1)
    c.ask.ensures.nodes

pub returns-in-Ask-clause-same : goal.returns-in-Ask-clause-same
returns-in-Ask-clause-same g c = c.follow.ensures.same

pub returns-in-Holds-clause-front : goal.returns-in-Holds-clause-front
returns-in-Holds-clause-front g c = c.hold.ensures.front

pub returns-in-Holds-clause-nodes : goal.returns-in-Holds-clause-nodes
returns-in-Holds-clause-nodes g c =
    on_ok_weaker c.hold.result
    (own_others c.args.walk.now c.hold.new.self (g.A.Asker.is_own c.follow.new.self)
    (nodes_kept c.follow.ensures.same c.args.walk.now c.requires.nodes)) c.hold.ensures.nodes

pub returns-in-Holds-clause-same : goal.returns-in-Holds-clause-same
returns-in-Holds-clause-same g c = c.follow.ensures.same

pub returns-in-Fails-clause-nodes : goal.returns-in-Fails-clause-nodes
returns-in-Fails-clause-nodes g c = nodes_kept c.follow.ensures.same c.args.walk.now c.requires.nodes

pub returns-in-Fails-clause-same : goal.returns-in-Fails-clause-same
returns-in-Fails-clause-same g c = c.follow.ensures.same

pub returns-in-Holds-clause-taken : goal.returns-in-Holds-clause-taken
returns-in-Holds-clause-taken g c =
    IfOk-weaker c.hold.result (λ step. TakesNone step c.args.walk.now.left c.hold.new.self.left) _
    (step_tells_none (rw c.in-Holds.is at c.in_ok-lit.ensures.told)) c.hold.ensures.left
