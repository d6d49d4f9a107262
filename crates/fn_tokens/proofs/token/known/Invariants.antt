use Rattle.std.proofs.Common.{◌≡◌, drop}
use Rattle.fn_tokens.specs.Words.{known_among}
use Rattle.fn_tokens.proofs.token.known.Given as goal

abbrev pub invariant-loop-word : goal.invariant-loop-word
invariant-loop-word l = known_among (drop l.word-index l.words) l.letters ≡ known_among l.words l.letters
