use Rattle.std.proofs.Common.{◌≡◌, ◌<◌, ◌-◌, arith, subst}
use Rattle.cert_text.specs.Numbers.{PICK_LIMIT}
use Rattle.cert_text.specs.Cycles.{IsShortNumber}
use Rattle.cert_text.proofs.CycleLemmas.{digit_is_too_much, front_with_digit, front_with_more_digits}
use Rattle.cert_text.proofs.cycle.number_with_digit.Goals as goal

pub returns-in-None-clause-grown : goal.returns-in-None-clause-grown
returns-in-None-clause-grown c =
    let value : c.from-value.result ≡ c.args.digit - 48 = c.from-value.ensures in (
      omega (arith, value, c.requires.high),
      λ picks.
          rw value (front_with_digit picks c.args.number c.args.digit c.in-None.is c.requires.low c.requires.high),
    )

pub returns-in-Some-clause-grown : goal.returns-in-Some-clause-grown
returns-in-Some-clause-grown c =
    let value : c.from-value.result ≡ c.args.digit - 48 = c.from-value.ensures in
    let fit = c.takes_digit.ensures.0 c.if-takes_digit.true in (
      omega (arith, value, c.requires.high, fit.1),
      λ picks. rw value (front_with_more_digits picks c.args.number c.in-Some.number c.args.digit c.in-Some.is fit.0
          fit.1 c.requires.low c.requires.high),
    )

pub returns-in-Some-2-clause-wrong : goal.returns-in-Some-2-clause-wrong
returns-in-Some-2-clause-wrong c =
    λ picks picks_short.
    let short : c.in-Some-2.field-0 < PICK_LIMIT = subst IsShortNumber c.in-Some-2.is c.requires.short in
    digit_is_too_much picks c.args.number c.in-Some-2.field-0 c.args.digit picks_short c.in-Some-2.is short
    (λ positive few.
    let same : c.in-Some-2.field-0 ≡ c.in-Some.number = cc in
    let taken = c.takes_digit.ensures.1 (omega (arith, same), omega (arith, same)) in let no = c.if-takes_digit.false in
    cc (taken, no)) c.requires.low c.requires.high
