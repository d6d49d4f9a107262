use Rattle.std.proofs.Common.{◌≡◌, ◌+◌, ◌++◌, drop}
use Rattle.ot_replies.specs.HubTexts.{client_lines}
use Rattle.ot_replies.proofs.texts.hubs.write_clients.Given as goal

-- the lines of the clients that are left are still to be written
abbrev pub invariant-loop-place : goal.invariant-loop-place
invariant-loop-place l =
    l.out.items ++ client_lines (l.place + 1) (drop l.place l.ends) ≡ l.initial.out.items ++ client_lines 1 l.ends
