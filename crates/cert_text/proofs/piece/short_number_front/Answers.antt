use Rattle.std.proofs.Common.{[], arith, refl}
use Rattle.cert_text.proofs.PieceLemmas.{digits_grow}
use Rattle.cert_text.proofs.piece.short_number_front.Goals as goal

pub returns : goal.returns
returns c =
    let one = c.in_ok-number.ensures.grown in
    let two = c.in_ok-number-2.ensures.grown in
    let three = c.in_ok-number-3.ensures.grown in
    let bytes = c.args.bytes.now in
    let first = digits_grow bytes 0 _ [] _ (omega arith) refl refl (one.1 []) in
    let second = digits_grow bytes 1 _ _ _ (omega arith) refl first (two.1 []) in
    (three.0, omega arith, digits_grow bytes 2 _ _ _ (omega arith) refl second (three.1 []))

-- one digit
pub returns-then-second-lt48 : goal.returns-then-second-lt48
returns-then-second-lt48 c =
    let grown = c.in_ok-number.ensures.grown in
    (grown.0, omega arith, digits_grow c.args.bytes.now 0 _ [] _ (omega arith) refl refl (grown.1 []))

-- two digits
pub returns-then-third-lt48 : goal.returns-then-third-lt48
returns-then-third-lt48 c =
    let one = c.in_ok-number.ensures.grown in
    let two = c.in_ok-number-2.ensures.grown in
    let bytes = c.args.bytes.now in
    let first = digits_grow bytes 0 _ [] _ (omega arith) refl refl (one.1 []) in
    (two.0, omega arith, digits_grow bytes 1 _ _ _ (omega arith) refl first (two.1 []))
