use Rattle.std.proofs.Common.{◌≡◌, ◌≤◌, ◌+◌, ◌++◌, drop}
use Rattle.ot_steps.specs.ShortDocuments.{runs_from}
use Rattle.ot_steps.proofs.runs.append_runs.Given as goal

-- the runs that are left begin with the one that is open, and it has no more cells than were seen
abbrev pub invariant-loop-cell : goal.invariant-loop-cell
invariant-loop-cell l = record {
  runs : l.runs.items ++ runs_from l.run.cell l.run.count (drop l.cell-index l.rest)
      ≡ l.initial.runs.items ++ runs_from l.fn.first 1 l.rest;
  few : l.run.count ≤ l.cell-index + 1;
}
