use Rattle.proof_check.proofs.Keeping.{KeepsStarts-refl, standing_kept}
use Rattle.proof_check.proofs.Taking.{cycle_ok, cycle_own, cycle_why, root_kept}
use Rattle.proof_check.proofs.token.take_token.Goals as goal

pub returns-in-Cycle-clause-ok : goal.returns-in-Cycle-clause-ok
returns-in-Cycle-clause-ok g c =
    rw c.in-Cycle.is
    (cycle_ok (g.A.Asker.is_own c.args.asker.now) (g.A.Starter.starts c.args.asker.now) c.args.places.now
    c.take_cycle.new.places c.in-Cycle.picks c.take_cycle.result c.take_cycle.ensures.settled c.requires.open
    c.take_cycle.ensures.closed c.take_cycle.ensures.ok)

pub returns-in-Cycle-clause-own : goal.returns-in-Cycle-clause-own
returns-in-Cycle-clause-own g c =
    cycle_own (g.A.Asker.is_own c.args.asker.now) (g.A.Starter.starts c.args.asker.now) c.args.places.now
    c.take_cycle.new.places c.in-Cycle.picks c.take_cycle.result c.requires.own c.take_cycle.ensures.closed

pub returns-in-Cycle-clause-why : goal.returns-in-Cycle-clause-why
returns-in-Cycle-clause-why g c =
    rw c.in-Cycle.is
    (cycle_why (g.A.Asker.is_own c.args.asker.now) (g.A.Starter.starts c.args.asker.now)
    c.args.places.now c.take_cycle.new.places
    c.in-Cycle.picks c.take_cycle.result c.take_cycle.ensures.settled c.requires.open c.take_cycle.ensures.why)

pub returns-in-Cycle-clause-same : goal.returns-in-Cycle-clause-same
returns-in-Cycle-clause-same g c =
    KeepsStarts-refl (g.A.Asker.is_own c.args.asker.now) (g.A.Starter.starts c.args.asker.now)

pub returns-in-Lemma-clause-same : goal.returns-in-Lemma-clause-same
returns-in-Lemma-clause-same g c =
    KeepsStarts-refl (g.A.Asker.is_own c.args.asker.now) (g.A.Starter.starts c.args.asker.now)

pub returns-in-Ask-clause-standing : goal.returns-in-Ask-clause-standing
returns-in-Ask-clause-standing g c = standing_kept c.take_question.ensures.same c.args.places.now c.requires.own

pub returns-in-Ask-clause-root : goal.returns-in-Ask-clause-root
returns-in-Ask-clause-root g c =
    root_kept (g.A.Starter.starts c.args.asker.now) (g.A.Starter.starts c.take_question.new.asker) _ _
    (g.met.A.Starter.whole c.args.asker.now) (g.met.A.Starter.whole c.take_question.new.asker)
    c.take_question.ensures.same.root

pub returns-in-Holds-clause-standing : goal.returns-in-Holds-clause-standing
returns-in-Holds-clause-standing g c = standing_kept c.take_end.ensures.same c.args.places.now c.requires.own

pub returns-in-Holds-clause-root : goal.returns-in-Holds-clause-root
returns-in-Holds-clause-root g c =
    root_kept (g.A.Starter.starts c.args.asker.now) (g.A.Starter.starts c.take_end.new.asker) _ _
    (g.met.A.Starter.whole c.args.asker.now) (g.met.A.Starter.whole c.take_end.new.asker) c.take_end.ensures.same.root

pub returns-in-Cite-clause-standing : goal.returns-in-Cite-clause-standing
returns-in-Cite-clause-standing g c = standing_kept c.take_citation.ensures.same c.args.places.now c.requires.own

pub returns-in-Cite-clause-root : goal.returns-in-Cite-clause-root
returns-in-Cite-clause-root g c =
    root_kept (g.A.Starter.starts c.args.asker.now) (g.A.Starter.starts c.take_citation.new.asker) _ _
    (g.met.A.Starter.whole c.args.asker.now) (g.met.A.Starter.whole c.take_citation.new.asker)
    c.take_citation.ensures.same.root
