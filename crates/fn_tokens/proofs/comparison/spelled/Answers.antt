use Rattle.std.proofs.Common.{◌≡◌, get_or, arith, ◌∙◌, refl}
use Rattle.fn_tokens.proofs.Ahead.{ahead}
use Rattle.fn_tokens.proofs.comparison.spelled.Goals as goal

pub returns-clause-ahead : goal.returns-clause-ahead
returns-clause-ahead c = λ line column after.
    let bytes = c.args.bytes.now in
    let space : get_or bytes 2 0 ≡ 32 = omega (arith, c.if-bytes-ne32.false) in
    let space_too : get_or bytes 4 0 ≡ 32 = omega (arith, c.if-bytes-ne32-2.false) in
    let same : get_or bytes 5 0 ≡ get_or bytes 0 0 = omega (arith, c.if-bytes.false) in
    let right : get_or bytes 6 0 ≡ c.in_ok-left.right = omega (arith, c.if-bytes-right.false) in
    ahead _ bytes line column after (omega (arith, c.if-bytes-lt8.false)) c.in_ok-sort.ensures.letter
    c.in_ok-left.ensures.digit space c.in_ok-cmp.ensures space_too same (right ∙ c.in_ok-left.ensures.other)
    (c.if-not-ends_word.ensures refl) c.in_ok-sort.ensures.each
