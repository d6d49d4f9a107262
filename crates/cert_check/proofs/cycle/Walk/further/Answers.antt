use Rattle.std.proofs.Common.{◌∷◌, [], arith, append_assoc}
use Rattle.std.proofs.lemmas.Int.{ints}
use Rattle.cert_check.proofs.Cycles.{closes_before}
use Rattle.cert_check.proofs.cycle.Walk.further.Goals as goal

pub returns : goal.returns
returns c =
    λ lits picks pick walks at more rest.
    rw (append_assoc picks (pick ∷ []) more)
    (walks (pick ∷ more)
    (closes_before lits c.args.self.name c.args.self.start pick c.args.self.sum _ more c.args.lit at
    c.if-x-self.false (grind (arith, ints, c.from.ensures)) rest))
