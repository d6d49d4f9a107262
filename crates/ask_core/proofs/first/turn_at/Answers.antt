use Rattle.ask_core.proofs.FirstPlaces.{AreOwn-same, branches_at-same, is_own-first, plan-first}
use Rattle.ask_core.proofs.first.turn_at.Goals as goal

pub turn-requires : goal.turn-requires
turn-requires g c =
    is_own-first (g.A.Asker.is_own c.args.asker.now) c.args.path.now c.node.result c.node.ensures c.requires.own

pub returns-clause-begins : goal.returns-clause-begins
returns-clause-begins g c =
    rw (plan-first (g.A.Asker.plan c.turn.new.self) c.args.path.now c.node.result c.node.ensures) at
    c.turn.ensures.begins

pub returns-clause-fine : goal.returns-clause-fine
returns-clause-fine g c =
    let A = g.A.Asker in
    let n = c.node.result in
    let own = is_own-first (A.is_own c.args.asker.now) c.args.path.now n c.node.ensures c.requires.own in
    rw (plan-first (A.plan c.turn.new.self) c.args.path.now n c.node.ensures)
    at (g.met.A.Asker.fine c.turn.new.self n ((c.turn.ensures.same.own n).0 own))

pub returns-clause-own : goal.returns-clause-own
returns-clause-own g c =
    let A = g.A.Asker in
    let was = c.args.asker.now in
    let now = c.turn.new.self in
    AreOwn-same (A.is_own was) (A.is_own now) (A.plan was) (A.plan now) c.args.path.now
    c.turn.ensures.same c.requires.own

pub returns-clause-branches : goal.returns-clause-branches
returns-clause-branches g c =
    let A = g.A.Asker in
    let was = c.args.asker.now in
    let now = c.turn.new.self in
    branches_at-same (A.is_own was) (A.is_own now) (A.plan was) (A.plan now) c.args.path.now
    c.turn.ensures.same c.requires.own
