use Rattle.std.proofs.lemmas.Result.{on_ok_weaker, IfOk-weaker}
use Rattle.proof_search.proofs.Keeping.{KeepsStarts-trans}
use Rattle.proof_writer.proofs.Walking.{lemmas_kept, nodes_kept, own_others}
use Rattle.proof_writer.specs.Counting.{TakesNone}
use Rattle.proof_writer.proofs.Counting.{step_takes_none}
use Rattle.proof_writer.proofs.writing.use_lemma.Goals as goal

pub returns-in-Some-clause-front : goal.returns-in-Some-clause-front
returns-in-Some-clause-front g c = c.cite.ensures.front

pub returns-in-Some-clause-nodes : goal.returns-in-Some-clause-nodes
returns-in-Some-clause-nodes g c =
    on_ok_weaker c.cite.result
    (own_others c.args.walk.now c.cite.new.self (g.A.Asker.is_own c.serving.new.asker)
    (nodes_kept c.serving.ensures.same c.args.walk.now c.requires.nodes)) c.cite.ensures.nodes

pub returns-in-Some-clause-same : goal.returns-in-Some-clause-same
returns-in-Some-clause-same g c = c.serving.ensures.same

pub begin_lemma-requires-clause-lemmas : goal.begin_lemma-requires-clause-lemmas
begin_lemma-requires-clause-lemmas g c = lemmas_kept c.serving.ensures.same c.args.lemmas.now c.requires.lemmas

pub begin_lemma-requires-clause-here : goal.begin_lemma-requires-clause-here
begin_lemma-requires-clause-here g c = (c.serving.ensures.same.own c.args.place.node).0 c.requires.here

pub begin_lemma-requires-clause-nodes : goal.begin_lemma-requires-clause-nodes
begin_lemma-requires-clause-nodes g c = nodes_kept c.serving.ensures.same c.args.walk.now c.requires.nodes

pub returns-clause-front : goal.returns-clause-front
returns-clause-front g c = c.begin_lemma.ensures.front

pub returns-clause-nodes : goal.returns-clause-nodes
returns-clause-nodes g c = c.begin_lemma.ensures.nodes

pub returns-clause-same : goal.returns-clause-same
returns-clause-same g c = KeepsStarts-trans c.serving.ensures.same c.begin_lemma.ensures.same

pub returns-in-Some-clause-taken : goal.returns-in-Some-clause-taken
returns-in-Some-clause-taken g c =
    IfOk-weaker c.cite.result (λ step. TakesNone step c.args.walk.now.left c.cite.new.self.left) _
    (step_takes_none c.serving.ensures.told) c.cite.ensures.left
