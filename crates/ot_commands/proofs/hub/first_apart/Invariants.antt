use Rattle.std.proofs.Common.{ℕ, ◌+◌, Option, drop}
use Rattle.ot_commands.specs.Hub.{IsFirstApart}
use Rattle.ot_commands.proofs.hub.first_apart.Given as goal

-- what is found among the others is what is found
abbrev pub invariant-loop-place : goal.invariant-loop-place
invariant-loop-place l =
    (found : Option ℕ) → IsFirstApart l.fn.logged l.fn.doc (l.place + 1) (drop l.place l.fn.ends) found
    → IsFirstApart l.fn.logged l.fn.doc 1 l.fn.ends found
