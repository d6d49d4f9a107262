use Rattle.std.proofs.Common.{◌≡◌, ◌-◌, drop, length}
use Rattle.fn_tokens.specs.Tokens.{tokens_from, IsPlaceIn}
use Rattle.fn_tokens.proofs.lexer.first_token.Given as goal

abbrev pub invariant-loop-at : goal.invariant-loop-at
invariant-loop-at l = record {
  told : tokens_from l.place (drop l.at l.bytes) ≡ tokens_from l.fn.from (drop l.fn.passed l.bytes);
  place : IsPlaceIn (length l.bytes) l.at l.place;
}

abbrev pub decreases-loop-at : goal.decreases-loop-at
decreases-loop-at l = length l.bytes - l.at
