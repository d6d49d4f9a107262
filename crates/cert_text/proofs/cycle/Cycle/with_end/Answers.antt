use Rattle.std.proofs.Common.{◌≡◌, ◌<◌, ◌+◌, length, ap, subst, arith, length-append, ◌∷◌, []}
use Rattle.cert_text.specs.Numbers.{AreShort, PICK_LIMIT}
use Rattle.cert_text.specs.Cycles.{IsShortNumber}
use Rattle.cert_text.proofs.CycleLemmas.{AreShort-push, digit_is_wanted, whole_with_end}
use Rattle.cert_text.proofs.cycle.Cycle.with_end.Goals as goal

pub returns-in_default : goal.returns-in_default
returns-in_default c = digit_is_wanted _ _ _ c.requires.begun.1 c.in_default.is (λ low high. omega arith)

pub returns : goal.returns
returns c =
    let short : c.in-Some.number < PICK_LIMIT = subst IsShortNumber c.in-Some.is c.requires.begun.2 in
    let len : length c.push.new.self ≡ length c.args.self.picks + 1 =
    omega (arith, ap length c.push.ensures, length-append c.args.self.picks (c.in-Some.number ∷ [])) in
    let all : AreShort c.push.new.self =
    rw c.push.ensures (AreShort-push c.args.self.picks c.in-Some.number c.requires.begun.1 short) in
    ((omega arith, omega (arith, c.requires.begun.0), all), whole_with_end _ _ _ _ c.push.ensures c.in-Some.is)
