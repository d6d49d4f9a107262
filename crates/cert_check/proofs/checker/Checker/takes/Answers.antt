use Rattle.cert_check.proofs.Feeding.{IsUnderWay-taken, IsUnderWay-refused}
use Rattle.cert_check.proofs.checker.Checker.takes.Goals as goal
use Rattle.cert_check.proofs.checker.Checker.takes.Goals.{in-Ok, in-Err}

pub invariant_of-self : goal.invariant_of-self
invariant_of-self g c =
    let now = c.take_token in
    elim c.match-take_token.branch [
      | in-Ok w ↦
          IsUnderWay-taken c.self.inside.path c.args.tok.now c.self.invariant now.new.path now.ensures.own
          now.ensures.root c.trees_are_judged_token_by_token.ensures w.in-Ok.ensures.few w.in-Ok.ensures.ok
      | in-Err w ↦
          IsUnderWay-refused c.self.inside.path c.args.tok.now c.self.invariant now.new.path now.ensures.own
          now.ensures.root (rw w.in-Err.ensures.err now.ensures.branches)
    ]
