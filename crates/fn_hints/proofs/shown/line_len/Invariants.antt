use Rattle.std.proofs.Common.{◌≡◌, ◌+◌, drop}
use Rattle.std.specs.List.{prefix_len}
use Rattle.fn_hints.specs.Shown.{is_inside}
use Rattle.fn_hints.proofs.shown.line_len.Given as goal

abbrev pub invariant-loop-i : goal.invariant-loop-i
invariant-loop-i l = l.i + prefix_len is_inside (drop l.i l.bytes) ≡ prefix_len is_inside l.bytes
