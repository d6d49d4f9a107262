use Rattle.std.proofs.Common.{◌≡◌, ◌++◌, drop, flat_map}
use Rattle.fn_hints.specs.Texts.{spaced_name}
use Rattle.fn_hints.proofs.text.write_tokens.Given as goal

-- the tokens that are left are still to be written
abbrev pub invariant-loop-token : goal.invariant-loop-token
invariant-loop-token l =
    l.out.items ++ flat_map spaced_name (drop l.token-index l.tokens)
    ≡ l.initial.out.items ++ flat_map spaced_name l.tokens
