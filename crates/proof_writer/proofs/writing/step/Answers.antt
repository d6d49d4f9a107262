use Rattle.std.proofs.lemmas.Result.{on_ok_weaker, IfOk-weaker}
use Rattle.proof_search.proofs.Keeping.{KeepsStarts-refl}
use Rattle.proof_writer.proofs.Walking.{own_others, present_own}
use Rattle.std.proofs.Common.{refl}
use Rattle.proof_writer.specs.Counting.{TakesNone}
use Rattle.proof_writer.proofs.Counting.{step_takes_none}
use Rattle.proof_writer.proofs.writing.step.Goals as goal

pub is_start-requires : goal.is_start-requires
is_start-requires g c =
    present_own (g.A.Asker.is_own c.args.asker.now) c.args.walk.now c.in-Some.place c.in-Some.is c.requires.nodes

pub follow-requires-clause-here : goal.follow-requires-clause-here
follow-requires-clause-here g c =
    present_own (g.A.Asker.is_own c.args.asker.now) c.args.walk.now c.in-Some.place c.in-Some.is c.requires.nodes

pub use_lemma-requires-clause-here : goal.use_lemma-requires-clause-here
use_lemma-requires-clause-here g c =
    present_own (g.A.Asker.is_own c.args.asker.now) c.args.walk.now c.in-Some.place c.in-Some.is c.requires.nodes

pub returns-in_default-clause-nodes : goal.returns-in_default-clause-nodes
returns-in_default-clause-nodes g c =
    on_ok_weaker c.next.result
    (own_others c.args.walk.now c.next.new.self (g.A.Asker.is_own c.args.asker.now) c.requires.nodes)
    c.next.ensures.nodes

pub returns-in_default-clause-front : goal.returns-in_default-clause-front
returns-in_default-clause-front g c = c.next.ensures.front

pub returns-in_default-clause-same : goal.returns-in_default-clause-same
returns-in_default-clause-same g c =
    KeepsStarts-refl (g.A.Asker.is_own c.args.asker.now) (g.A.Starter.starts c.args.asker.now)

pub returns-then-not-is_start-clause-front : goal.returns-then-not-is_start-clause-front
returns-then-not-is_start-clause-front g c = c.follow.ensures.front

pub returns-then-not-is_start-clause-nodes : goal.returns-then-not-is_start-clause-nodes
returns-then-not-is_start-clause-nodes g c = c.follow.ensures.nodes

pub returns-then-not-is_start-clause-same : goal.returns-then-not-is_start-clause-same
returns-then-not-is_start-clause-same g c = c.follow.ensures.same

pub returns-clause-front : goal.returns-clause-front
returns-clause-front g c = c.use_lemma.ensures.front

pub returns-clause-nodes : goal.returns-clause-nodes
returns-clause-nodes g c = c.use_lemma.ensures.nodes

pub returns-clause-same : goal.returns-clause-same
returns-clause-same g c = c.use_lemma.ensures.same

pub returns-in_default-clause-taken : goal.returns-in_default-clause-taken
returns-in_default-clause-taken g c =
    IfOk-weaker c.next.result (λ step. TakesNone step c.args.walk.now.left c.next.new.self.left) _
    (step_takes_none refl) c.next.ensures.left
