use Rattle.std.proofs.Common.{◌≡◌, ◌+◌, ◌<◌, ◌∷◌, [], Some, length, get_or, refl, subst, arith, ap, length-append}
use Rattle.cert_text.specs.Numbers.{AreShort, PICK_LIMIT}
use Rattle.cert_text.specs.Cycles.{IsShortNumber}
use Rattle.cert_text.proofs.CycleLemmas.{AreShort-push, front_with_comma, whole_with_end}
use Rattle.cert_text.proofs.PieceLemmas.{front_grows}
use Rattle.cert_text.proofs.piece.whole_numbers.Goals as goal
use Rattle.cert_text.proofs.piece.whole_numbers.Goals.{then-byte-ge48+then-byte-le57+in_ok-number_with_digit}
use Rattle.cert_text.proofs.piece.whole_numbers.Goals.{
  else-byte-ge48+then-byte-eq44+else-as_slice-eq-MAX_PICKS+in_ok-number,
}

-- the end of the cycle puts the last number with the others
pub returns-then-byte-eq59 : goal.returns-then-byte-eq59
returns-then-byte-eq59 c =
    let some : c.loop-i.number ≡ Some c.in_ok-number-2.field-0 = c.in_ok-number-2.was in
    let short : c.in_ok-number-2.field-0 < PICK_LIMIT = subst IsShortNumber some c.loop-i.invariant.2 in
    let pushed = c.push-then-byte-eq59.ensures in
    let len : length c.push-then-byte-eq59.new.self ≡ length c.loop-i.picks + 1 =
    omega (arith, ap length pushed, length-append c.loop-i.picks (c.in_ok-number-2.field-0 ∷ [])) in
    let all : AreShort c.push-then-byte-eq59.new.self =
    rw pushed (AreShort-push c.loop-i.picks c.in_ok-number-2.field-0 c.loop-i.invariant.1 short) in
    let text = whole_with_end c.loop-i.picks c.push-then-byte-eq59.new.self c.loop-i.number
    c.in_ok-number-2.field-0 pushed some in (
      (omega arith, omega (arith, c.loop-i.invariant.0), all),
      omega arith,
      front_grows c.args.bytes.now c.loop-i.i 59 _ _ c.loop-i-test.true c.if-byte-eq59.true c.loop-i.invariant.3 text,
    )

-- a digit more of a number, or a comma behind it
pub loop-i-preserved : goal.loop-i-preserved
loop-i-preserved c =
    elim c.if-byte-ge48.branch [
      | then-byte-ge48+then-byte-le57+in_ok-number_with_digit w ↦
          let grown = w.in_ok-number_with_digit.ensures.grown in
          rw (w.picks-is, w.number-is) (
            c.loop-i.invariant.0,
            c.loop-i.invariant.1,
            grown.0,
            front_grows c.args.bytes.now c.loop-i.i (get_or c.args.bytes.now c.loop-i.i 0) _ _ c.loop-i-test.true refl
                c.loop-i.invariant.3 (grown.1 c.loop-i.picks),
          )
      | else-byte-ge48+then-byte-eq44+else-as_slice-eq-MAX_PICKS+in_ok-number w ↦
          let some : c.loop-i.number ≡ Some w.in_ok-number.field-0 = w.in_ok-number.was in
          let short : w.in_ok-number.field-0 < PICK_LIMIT = subst IsShortNumber some c.loop-i.invariant.2 in
          let few : length w.push.new.self < 12 =
          omega (
            arith,
            c.loop-i.invariant.0,
            w.if-as_slice-eq-MAX_PICKS.false,
            ap length w.as_slice.ensures.value,
            ap length w.push.ensures,
            length-append c.loop-i.picks (w.in_ok-number.field-0 ∷ []),
          ) in
          let all : AreShort w.push.new.self =
          rw w.push.ensures (AreShort-push c.loop-i.picks w.in_ok-number.field-0 c.loop-i.invariant.1 short) in
          rw (w.picks-is, w.number-is) (
            few,
            all,
            tt,
            front_grows c.args.bytes.now c.loop-i.i 44 _ _ c.loop-i-test.true w.if-byte-eq44.true c.loop-i.invariant.3
                (front_with_comma c.loop-i.picks w.push.new.self c.loop-i.number
                w.in_ok-number.field-0 w.push.ensures some),
          )
    ]
