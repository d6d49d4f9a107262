use Rattle.std.proofs.Common.{◌≡◌, ◌++◌, drop}
use Rattle.ot_steps.specs.ShortDocuments.{further_runs_text}
use Rattle.ot_steps.proofs.short_document.write_further_runs.Given as goal

-- the runs that are left are still to be written
abbrev pub invariant-loop-run : goal.invariant-loop-run
invariant-loop-run l =
    l.out.items ++ further_runs_text l.last (drop l.run-index l.runs)
    ≡ l.initial.out.items ++ further_runs_text l.fn.before l.runs
