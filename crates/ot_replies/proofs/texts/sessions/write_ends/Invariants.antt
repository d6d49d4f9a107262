use Rattle.std.proofs.Common.{◌≡◌, ◌+◌, ◌++◌, drop}
use Rattle.ot_replies.specs.SessionTexts.{site_lines}
use Rattle.ot_replies.proofs.texts.sessions.write_ends.Given as goal

-- the lines of the sites that are left are still to be written
abbrev pub invariant-loop-place : goal.invariant-loop-place
invariant-loop-place l = l.out.items ++ site_lines (l.place + 1) (drop l.place l.ends) ≡ site_lines 1 l.ends
