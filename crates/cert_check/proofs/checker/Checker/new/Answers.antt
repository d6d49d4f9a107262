use Rattle.cert_check.proofs.Feeding.{IsUnderWay-begun}
use Rattle.cert_check.proofs.checker.Checker.new.Goals as goal

pub invariant_of-result : goal.invariant_of-result
invariant_of-result g c =
    let A = g.A.Asker in
    let asker = c.start.new.self in
    IsUnderWay-begun (A.is_own asker) (A.plan asker) (A.root asker) c.in_ok-first.first c.new.result
    c.fitting_trees_hold.ensures.completed c.in_ok-first.ensures.begins c.new.ensures
