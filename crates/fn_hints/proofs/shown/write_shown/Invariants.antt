use Rattle.std.proofs.Common.{◌≡◌, ◌++◌, drop, map}
use Rattle.fn_hints.specs.Shown.{shown_byte}
use Rattle.fn_hints.proofs.shown.write_shown.Given as goal

-- the bytes that are left are still to be written
abbrev pub invariant-loop-byte : goal.invariant-loop-byte
invariant-loop-byte l =
    l.out.items ++ map shown_byte (drop l.byte-index l.bytes) ≡ l.initial.out.items ++ map shown_byte l.bytes
