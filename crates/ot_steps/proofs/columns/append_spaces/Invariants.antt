use Rattle.std.proofs.Common.{◌≡◌, ◌++◌, replicate}
use Rattle.ot_steps.proofs.columns.append_spaces.Given as goal

-- so many spaces were written
abbrev pub invariant-loop-done : goal.invariant-loop-done
invariant-loop-done l = l.out.items ≡ l.initial.out.items ++ replicate l.done 32
