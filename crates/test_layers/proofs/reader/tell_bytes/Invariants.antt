use Rattle.std.proofs.Common.{◌≤◌}
use Rattle.cert_text.specs.Reading.{fed_to}
use Rattle.test_layers.proofs.reader.tell_bytes.Given as goal

abbrev pub invariant-loop-byte : goal.invariant-loop-byte
invariant-loop-byte l = fed_to l.reader ≤ l.byte-index
