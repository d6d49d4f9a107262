use Rattle.std.proofs.Common.{length, ◌-◌, ◌++◌, ◌≡◌, ◌≤◌, take}
use Rattle.ot_outside.proofs.whole.write_all.Given as goal

-- the bytes before `done` were appended
abbrev pub invariant-loop-done : goal.invariant-loop-done
invariant-loop-done g l = record {
  in_range : l.done ≤ length l.bytes;
  appended : g.S.Sink.took l.sink ≡ g.S.Sink.took l.fn.sink ++ take l.done l.bytes;
  faults : g.S.Sink.faults l.fn.sink ≤ g.S.Sink.faults l.sink;
}

abbrev pub decreases-loop-done : goal.decreases-loop-done
decreases-loop-done g l = length l.bytes - l.done
