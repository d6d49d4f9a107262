use Rattle.std.proofs.Common.{[], arith}
use Rattle.std.proofs.lemmas.Int.{ints}
use Rattle.std.proofs.lemmas.List.{append-nil}
use Rattle.cert_check.proofs.Cycles.{closes_there}
use Rattle.cert_check.proofs.cycle.Walk.is_negative_cycle.Goals as goal

pub returns-then-self : goal.returns-then-self
returns-then-self c =
    λ lits picks walks low.
    rw (append-nil picks) at
    (walks [] (closes_there lits c.args.self.name c.args.self.start c.args.self.sum c.if-self.true
    (grind (arith, ints, low))))
