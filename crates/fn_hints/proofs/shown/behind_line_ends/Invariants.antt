use Rattle.std.proofs.Common.{◌≡◌, drop}
use Rattle.fn_hints.specs.Shown.{behind_line_ends}
use Rattle.fn_hints.proofs.shown.behind_line_ends.Given as goal

abbrev pub invariant-loop-i : goal.invariant-loop-i
invariant-loop-i l = behind_line_ends l.left (drop l.i l.bytes) ≡ behind_line_ends l.count l.bytes
