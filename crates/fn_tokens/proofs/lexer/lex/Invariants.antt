use Rattle.std.proofs.Common.{◌≡◌, ◌++◌, length}
use Rattle.fn_tokens.specs.Tokens.{tokens_in}
use Rattle.fn_tokens.proofs.lexer.lex.Given as goal

abbrev pub invariant-loop-token : goal.invariant-loop-token
invariant-loop-token l = l.tokens.items ++ l.lexer ≡ tokens_in l.bytes

abbrev pub decreases-loop-token : goal.decreases-loop-token
decreases-loop-token l = length l.lexer
