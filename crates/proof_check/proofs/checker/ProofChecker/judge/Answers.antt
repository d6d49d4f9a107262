use Rattle.proof_check.specs.Judging.{standing_over}
use Rattle.proof_check.proofs.Taking.{IsProofUnderWay-taken, none_begun, none_open, plan_holds, refusal_stands}
use Rattle.proof_check.proofs.Taking.{step_done, step_more, under_way, under_way_still}
use Rattle.proof_check.proofs.checker.ProofChecker.judge.Goals as goal

pub take_token-requires-clause-own : goal.take_token-requires-clause-own
take_token-requires-clause-own g c =
    let way = under_way c.self.inside.refusal _ _ _ c.in_default.not-Some c.self.invariant in way.own

pub invariant_of-self : goal.invariant_of-self
invariant_of-self g c =
    let now = c.take_token in
    let way = under_way c.self.inside.refusal _ _ _ c.in_default.not-Some c.self.invariant in
    under_way_still c.self.inside.refusal _ _ _
    (IsProofUnderWay-taken now.ensures.same c.self.inside.places way.own c.args.tok.now now.new.places way
    c.in-Ok.ensures.own c.in-Ok.ensures.few c.in-Ok.ensures.ok)

pub invariant_of-self-in-Ok-2 : goal.invariant_of-self-in-Ok-2
invariant_of-self-in-Ok-2 g c =
    let now = c.take_token in
    let way = under_way c.self.inside.refusal _ _ _ c.in_default.not-Some c.self.invariant in
    under_way_still c.self.inside.refusal _ _ _
    (IsProofUnderWay-taken now.ensures.same c.self.inside.places way.own c.args.tok.now now.new.places way
    c.in-Ok-2.ensures.own c.in-Ok-2.ensures.few c.in-Ok-2.ensures.ok)

pub returns-in-Ok-clause-completes : goal.returns-in-Ok-clause-completes
returns-in-Ok-clause-completes g c tokens =
    let starts = g.A.Starter.starts in
    rw (← c.self.view_is)
    (step_more (starts c.self.inside.asker).compare c.args.tok.now
    (standing_over (starts c.self.inside.asker) c.self.inside.places)
    (standing_over (starts c.take_token.new.asker) c.take_token.new.places) c.in-Ok.ensures.few
    c.in-Ok.ensures.ok tokens)

pub returns-in-Ok-2-clause-completes : goal.returns-in-Ok-2-clause-completes
returns-in-Ok-2-clause-completes g c tokens =
    let starts = g.A.Starter.starts in
    rw (← c.self.view_is)
    (step_done (starts c.self.inside.asker).compare c.args.tok.now (standing_over (starts c.self.inside.asker)
    c.self.inside.places) (starts c.take_token.new.asker) c.take_token.new.places
    (none_open c.is_open.result c.take_token.new.places.wanted c.if-is_open.false c.is_open.ensures)
    c.in-Ok-2.ensures.few c.in-Ok-2.ensures.ok tokens)

pub returns-in-Ok-2-clause-done : goal.returns-in-Ok-2-clause-done
returns-in-Ok-2-clause-done g c done v =
    let now = c.take_token in
    let asker = now.new.asker in
    let way = under_way c.self.inside.refusal _ _ _ c.in_default.not-Some c.self.invariant in
    let after =
    IsProofUnderWay-taken now.ensures.same c.self.inside.places way.own c.args.tok.now now.new.places way
    c.in-Ok-2.ensures.own c.in-Ok-2.ensures.few c.in-Ok-2.ensures.ok in
    rw (← c.self.view_is, ← now.ensures.root)
    (plan_holds (g.A.Asker.is_own asker) (g.A.Starter.starts asker) (g.A.Asker.root asker) now.new.places after
    (none_open c.is_open.result now.new.places.wanted c.if-is_open.false c.is_open.ensures)
    (g.met.A.Starter.whole asker) v)

pub returns-in-Err-clause-refused : goal.returns-in-Err-clause-refused
returns-in-Err-clause-refused g c none other tokens =
    let starts = g.A.Starter.starts c.self.inside.asker in
    rw (← c.self.view_is)
    (none_begun starts.compare c.in-Err.refusal c.args.tok.now (standing_over starts c.self.inside.places)
    c.in-Err.ensures.why other tokens)

pub returns-in-Err-clause-err_open : goal.returns-in-Err-clause-err_open
returns-in-Err-clause-err_open g c =
    rw (← c.self.view_is)
    (refusal_stands (g.A.Starter.starts c.self.inside.asker) (g.A.Starter.starts c.take_token.new.asker)
    c.self.inside.places c.take_token.new.places c.in-Err.ensures.kept c.take_token.ensures.standing)

pub returns-in-Err-clause-why : goal.returns-in-Err-clause-why
returns-in-Err-clause-why g c none = rw (← c.self.view_is) c.in-Err.ensures.why

pub returns-in-Ok-clause-root : goal.returns-in-Ok-clause-root
returns-in-Ok-clause-root g c = rw (← c.self.view_is) c.take_token.ensures.root

pub returns-in-Ok-clause-compare : goal.returns-in-Ok-clause-compare
returns-in-Ok-clause-compare g c = rw (← c.self.view_is) c.take_token.ensures.same.compare

pub returns-in-Ok-clause-marked : goal.returns-in-Ok-clause-marked
returns-in-Ok-clause-marked g c = rw (← c.self.view_is) c.take_token.ensures.same.root

pub returns-in-Ok-2-clause-root : goal.returns-in-Ok-2-clause-root
returns-in-Ok-2-clause-root g c = rw (← c.self.view_is) c.take_token.ensures.root

pub returns-in-Ok-2-clause-compare : goal.returns-in-Ok-2-clause-compare
returns-in-Ok-2-clause-compare g c = rw (← c.self.view_is) c.take_token.ensures.same.compare

pub returns-in-Ok-2-clause-marked : goal.returns-in-Ok-2-clause-marked
returns-in-Ok-2-clause-marked g c = rw (← c.self.view_is) c.take_token.ensures.same.root

pub returns-in-Err-clause-root : goal.returns-in-Err-clause-root
returns-in-Err-clause-root g c = rw (← c.self.view_is) c.take_token.ensures.root

pub returns-in-Err-clause-compare : goal.returns-in-Err-clause-compare
returns-in-Err-clause-compare g c = rw (← c.self.view_is) c.take_token.ensures.same.compare

pub returns-in-Err-clause-marked : goal.returns-in-Err-clause-marked
returns-in-Err-clause-marked g c = rw (← c.self.view_is) c.take_token.ensures.same.root

pub returns-in-Ok-clause-step : goal.returns-in-Ok-clause-step
returns-in-Ok-clause-step g c = rw (← c.self.view_is) c.in-Ok.ensures.ok

pub returns-in-Ok-2-clause-step : goal.returns-in-Ok-2-clause-step
returns-in-Ok-2-clause-step g c = rw (← c.self.view_is) c.in-Ok-2.ensures.ok

pub returns-in-Err-clause-err : goal.returns-in-Err-clause-err
returns-in-Err-clause-err g c = rw (← c.self.view_is) c.in-Err.ensures.kept
