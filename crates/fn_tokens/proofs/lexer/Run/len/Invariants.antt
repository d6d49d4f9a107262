use Rattle.std.proofs.Common.{◌≡◌, ◌+◌, drop}
use Rattle.std.specs.List.{prefix_len}
use Rattle.fn_tokens.specs.Tokens.{is_in}
use Rattle.fn_tokens.proofs.lexer.Run.len.Given as goal

abbrev pub invariant-loop-i : goal.invariant-loop-i
invariant-loop-i l = l.i + prefix_len (is_in l.self) (drop l.i l.bytes) ≡ prefix_len (is_in l.self) l.bytes
