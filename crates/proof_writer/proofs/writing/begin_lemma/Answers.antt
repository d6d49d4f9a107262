use Rattle.std.proofs.lemmas.Result.{on_ok_weaker, IfOk-weaker}
use Rattle.proof_search.proofs.Keeping.{KeepsStarts-trans}
use Rattle.proof_writer.proofs.Walking.{nodes_kept, own_one_more}
use Rattle.proof_writer.specs.Counting.{TakesNone}
use Rattle.proof_writer.proofs.Counting.{step_takes_none}
use Rattle.proof_writer.proofs.writing.begin_lemma.Goals as goal

pub returns-in_err-lemma-clause-same : goal.returns-in_err-lemma-clause-same
returns-in_err-lemma-clause-same g c = c.unbegun_at.ensures.same

-- a lemma is begun
pub returns-in-Some-clause-front : goal.returns-in-Some-clause-front
returns-in-Some-clause-front g c = c.learn.ensures.front

pub returns-in-Some-clause-nodes : goal.returns-in-Some-clause-nodes
returns-in-Some-clause-nodes g c =
    on_ok_weaker c.learn.result
    (own_one_more c.args.walk.now c.learn.new.self (g.A.Asker.is_own c.unbegun_at.new.asker)
    (nodes_kept c.unbegun_at.ensures.same c.args.walk.now c.requires.nodes) c.args.place.node
    ((c.unbegun_at.ensures.same.own c.args.place.node).0 c.requires.here)) c.learn.ensures.nodes

pub returns-in-Some-clause-same : goal.returns-in-Some-clause-same
returns-in-Some-clause-same g c = c.unbegun_at.ensures.same

-- or none is
pub follow-requires-clause-here : goal.follow-requires-clause-here
follow-requires-clause-here g c = (c.unbegun_at.ensures.same.own c.args.place.node).0 c.requires.here

pub follow-requires-clause-nodes : goal.follow-requires-clause-nodes
follow-requires-clause-nodes g c = nodes_kept c.unbegun_at.ensures.same c.args.walk.now c.requires.nodes

pub returns-in-None-clause-front : goal.returns-in-None-clause-front
returns-in-None-clause-front g c = c.follow.ensures.front

pub returns-in-None-clause-nodes : goal.returns-in-None-clause-nodes
returns-in-None-clause-nodes g c = c.follow.ensures.nodes

pub returns-in-None-clause-same : goal.returns-in-None-clause-same
returns-in-None-clause-same g c = KeepsStarts-trans c.unbegun_at.ensures.same c.follow.ensures.same

pub returns-in-Some-clause-taken : goal.returns-in-Some-clause-taken
returns-in-Some-clause-taken g c =
    IfOk-weaker c.learn.result (λ step. TakesNone step c.args.walk.now.left c.learn.new.self.left) _
    (step_takes_none c.unbegun_at.ensures.told) c.learn.ensures.left
