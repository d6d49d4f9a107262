use Rattle.std.proofs.Common.{arith}
use Rattle.std.proofs.lemmas.Int.{ints}
use Rattle.cert_check.proofs.Cycles.{closes_all}
use Rattle.cert_check.proofs.cycle.Walk.along.Goals as goal

pub returns : goal.returns
returns c =
    λ lits pick at more rest.
    closes_all lits pick more c.args.lit _ at (grind (arith, ints, c.from-sum.ensures)) rest
