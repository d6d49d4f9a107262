use Rattle.std.proofs.Common.{◌<◌, length, ap, subst, arith, length-append, ◌∷◌, []}
use Rattle.cert_text.specs.Numbers.{AreShort, PICK_LIMIT}
use Rattle.cert_text.specs.Cycles.{IsShortNumber, cycle_text}
use Rattle.cert_text.proofs.CycleLemmas.{AreShort-push, byte_is_wrong, digit_is_wanted, front_with_comma, one_longer}
use Rattle.cert_text.proofs.cycle.Cycle.with_comma.Goals as goal

pub returns-in_default : goal.returns-in_default
returns-in_default c = digit_is_wanted _ _ _ c.requires.begun.1 c.in_default.is (λ low high. omega arith)

pub returns-then-as_slice-eq-MAX_PICKS : goal.returns-then-as_slice-eq-MAX_PICKS
returns-then-as_slice-eq-MAX_PICKS c =
    let short : c.in-Some.number < PICK_LIMIT = subst IsShortNumber c.in-Some.is c.requires.begun.2 in
    byte_is_wrong _ _ _ _ c.requires.begun.1 c.in-Some.is short (λ low high. omega arith) (λ e. omega arith)
    (λ e room. omega (arith, c.if-as_slice-eq-MAX_PICKS.true, ap length c.as_slice.ensures.value))

-- a comma behind a number puts the number with the others
pub returns : goal.returns
returns c =
    let short : c.in-Some.number < PICK_LIMIT = subst IsShortNumber c.in-Some.is c.requires.begun.2 in
    let text = front_with_comma c.args.self.picks c.push.new.self c.args.self.number c.in-Some.number
    c.push.ensures c.in-Some.is in
    let few : length c.push.new.self < 12 =
    omega (
      arith,
      c.requires.begun.0,
      c.if-as_slice-eq-MAX_PICKS.false,
      ap length c.as_slice.ensures.value,
      ap length c.push.ensures,
      length-append c.args.self.picks (c.in-Some.number ∷ []),
    ) in
    let all : AreShort c.push.new.self =
    rw c.push.ensures (AreShort-push c.args.self.picks c.in-Some.number c.requires.begun.1 short) in
    ((few, all, tt, one_longer _ 44 (cycle_text c.args.self.picks c.args.self.number) _ c.requires.begun.3 text), text)
