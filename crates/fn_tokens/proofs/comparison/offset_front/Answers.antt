use Rattle.std.proofs.Common.{arith}
use Rattle.fn_tokens.proofs.Ahead.{long_offset, short_offset}
use Rattle.fn_tokens.proofs.comparison.offset_front.Goals as goal

pub returns-in_default-clause-ahead : goal.returns-in_default-clause-ahead
returns-in_default-clause-ahead c = λ line column.
    let bytes = c.args.bytes.now in
    short_offset _ _ bytes line column (omega (arith, c.if-bytes-lt6.false))
    (omega (arith, c.if-bytes-ne32.false)) c.in_ok-sign.ensures
    (omega (arith, c.if-bytes-ne32-2.false)) c.in_ok-first.ensures.0 c.in_ok-first.ensures.1 c.in_default.ensures

pub returns-in-None-clause-ahead : goal.returns-in-None-clause-ahead
returns-in-None-clause-ahead c = λ line column.
    let bytes = c.args.bytes.now in
    long_offset _ _ _ bytes line column (omega (arith, c.if-bytes-lt6.false))
    (omega (arith, c.if-bytes-ne32.false)) c.in_ok-sign.ensures
    (omega (arith, c.if-bytes-ne32-2.false)) c.in_ok-first.ensures.0 c.in_ok-first.ensures.1 c.in-Some.ensures.0
    c.in-Some.ensures.1 c.in-None.ensures
