use Rattle.std.proofs.Common.{◌≤◌, length}
use Rattle.cert_text.specs.Reading.{fed_to}
use Rattle.test_layers.proofs.reader.tell_pieces.Given as goal

abbrev pub invariant-loop-end : goal.invariant-loop-end
invariant-loop-end l = (l.at ≤ length l.bytes) × (fed_to l.reader ≤ l.at)
