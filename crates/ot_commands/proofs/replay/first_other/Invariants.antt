use Rattle.std.proofs.Common.{ℕ, ◌+◌, Option, drop}
use Rattle.ot_commands.specs.Replay.{IsFirstOther}
use Rattle.ot_commands.proofs.replay.first_other.Given as goal

-- what is found behind is what is found
abbrev pub invariant-loop-place : goal.invariant-loop-place
invariant-loop-place l =
    (found : Option ℕ) → IsFirstOther l.fn.one (l.first + l.place) (drop l.place l.fn.others) found
    → IsFirstOther l.fn.one l.fn.first l.fn.others found
