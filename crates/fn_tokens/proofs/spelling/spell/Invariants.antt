use Rattle.std.proofs.Common.{◌≡◌, ◌++◌, drop, true}
use Rattle.fn_tokens.specs.Spelling.{spelled_from}
use Rattle.fn_tokens.proofs.spelling.spell.Given as goal

abbrev pub invariant-loop-token : goal.invariant-loop-token
invariant-loop-token l =
    l.out.items ++ spelled_from l.begins (drop l.token-index l.tokens) ≡ spelled_from true l.tokens
