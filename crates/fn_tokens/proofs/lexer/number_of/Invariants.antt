use Rattle.std.proofs.Common.{◌≡◌, ◌≤◌, drop}
use Rattle.fn_tokens.specs.Tokens.{number_from}
use Rattle.fn_tokens.proofs.lexer.number_of.Given as goal

abbrev pub invariant-loop-digit : goal.invariant-loop-digit
invariant-loop-digit l = record {
  capped : l.number ≤ 100;
  told : number_from l.number (drop l.digit-index l.digits) ≡ number_from 0 l.digits;
}
