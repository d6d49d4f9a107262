use Rattle.std.proofs.Common.{[], refl, arith}
use Rattle.std.proofs.lemmas.Bool.Decides.{nat_tests}
use Rattle.cert_text.proofs.PieceLemmas.{digits_grow}
use Rattle.cert_text.proofs.piece.number_front.Goals as goal

pub loop-i-init : goal.loop-i-init
loop-i-init c =
    let grown = c.in_ok-number.ensures.grown in (
      grown.0,
      digits_grow c.args.bytes.now 0 _ [] _
          (grind (arith, nat_tests, c.if-is_empty.false, c.is_empty.ensures)) refl refl (grown.1 []),
    )

pub loop-i-preserved : goal.loop-i-preserved
loop-i-preserved c =
    let grown = c.in_ok-number-2.ensures.grown in
    (grown.0, digits_grow c.args.bytes.now c.loop-i.i _ _ _ c.loop-i-test.true refl c.loop-i.invariant.1 (grown.1 []))
