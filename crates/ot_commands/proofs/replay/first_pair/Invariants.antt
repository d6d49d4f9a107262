use Rattle.std.proofs.Common.{ℕ, ◌+◌, Option, drop}
use Rattle.ot_commands.specs.Replay.{IsFirstPair}
use Rattle.ot_commands.proofs.replay.first_pair.Given as goal

-- what is found behind is what is found
abbrev pub invariant-loop-place : goal.invariant-loop-place
invariant-loop-place l =
    (found : Option (ℕ × ℕ)) → IsFirstPair (l.place + 1) (drop l.place l.fn.ends) found → IsFirstPair 1 l.fn.ends found
