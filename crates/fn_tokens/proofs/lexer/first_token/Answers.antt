use Rattle.std.proofs.Common.{◌∙◌, sym, arith}
use Rattle.std.specs.Option.{option_to_list}
use Rattle.fn_tokens.proofs.Passing.{goes_on, none_there, size_left}
use Rattle.fn_tokens.proofs.lexer.first_token.Goals as goal

pub returns-then-is_some-clause-tokens : goal.returns-then-is_some-clause-tokens
returns-then-is_some-clause-tokens c =
    sym c.loop-at.invariant.told
    ∙ goes_on c.loop-at.place c.turn-token.result.1 c.passed-place.result
    (option_to_list c.turn-token.result.0) c.loop-at.at
    c.args.bytes.now (omega (arith, c.loop-at-test.true)) c.turn-token.ensures.tokens c.turn-token.ensures.place
    c.passed-place.ensures.tokens

pub loop-at-preserved : goal.loop-at-preserved
loop-at-preserved c =
    let step = goes_on c.loop-at.place c.turn-token.result.1 c.passed-place.result
    (option_to_list c.turn-token.result.0) c.loop-at.at
    c.args.bytes.now (omega (arith, c.loop-at-test.true)) c.turn-token.ensures.tokens c.turn-token.ensures.place
    c.passed-place.ensures.tokens in
    record {
      told = none_there c.turn-token.result.0 _ _ (sym c.is_some.ensures ∙ c.if-is_some.false) step
          ∙ c.loop-at.invariant.told;
      place = record {
        free = c.passed-place.ensures.free;
        few = c.loop-at.invariant.place.few;
        within =
            omega (arith, size_left c.args.bytes.now c.loop-at.at, c.turn-token.ensures.within, c.loop-at-test.true);
        line = omega (arith, c.passed-place.ensures.line, c.turn-token.ensures.line, c.loop-at.invariant.place.line);
        column =
            omega (arith, c.passed-place.ensures.column, c.turn-token.ensures.column, c.loop-at.invariant.place.column);
      };
    }
