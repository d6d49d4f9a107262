use Rattle.std.proofs.Common.{◌≡◌, ◌+◌, drop}
use Rattle.ot_steps.specs.ShortDocuments.{run_at}
use Rattle.ot_steps.proofs.runs.run_at.Given as goal

-- the run is among those that are left
abbrev pub invariant-loop-number : goal.invariant-loop-number
invariant-loop-number l = l.number + run_at l.left (drop l.number l.runs) ≡ run_at l.fn.place l.runs
