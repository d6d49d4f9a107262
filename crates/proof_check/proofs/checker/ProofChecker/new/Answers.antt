use Rattle.proof_check.proofs.Taking.{IsProofUnderWay-begun, root_kept}
use Rattle.proof_check.proofs.checker.ProofChecker.new.Goals as goal

pub invariant_of-result : goal.invariant_of-result
invariant_of-result g c =
    let asker = c.first.new.self in
    IsProofUnderWay-begun (g.A.Asker.is_own asker) (g.A.Starter.starts asker) (g.A.Asker.root asker)
    c.in_ok-first.first c.new.result
    c.shown_plans_hold.ensures.whole (g.met.A.Starter.whole asker) c.in_ok-first.ensures.begins c.new.ensures

pub returns-clause-root : goal.returns-clause-root
returns-clause-root g c =
    root_kept (g.A.Starter.starts c.args.asker) (g.A.Starter.starts c.first.new.self) _ _
    (g.met.A.Starter.whole c.args.asker) (g.met.A.Starter.whole c.first.new.self) c.first.ensures.same.root
