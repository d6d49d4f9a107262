use Rattle.std.proofs.Common.{◌≡◌, ◌+◌, ◌++◌, drop}
use Rattle.ot_replies.specs.CounterTexts.{op_lines}
use Rattle.ot_replies.proofs.texts.counters.write_ops.Given as goal

-- the lines of the operations that are left are still to be written
abbrev pub invariant-loop-place : goal.invariant-loop-place
invariant-loop-place l =
    l.out.items ++ op_lines (l.place + 1) (drop l.place l.ops) ≡ l.initial.out.items ++ op_lines 1 l.ops
