use Rattle.std.proofs.Common.{◌≤◌, ◌+◌, take}
use Rattle.cert_text.specs.Reading.{fed_to}
use Rattle.cert_text.specs.Pieces.{GoesOn}
use Rattle.cert_reader.proofs.reader.Reader.feed_each.Given as goal

abbrev pub invariant-loop-i : goal.invariant-loop-i
invariant-loop-i l = GoesOn l.initial.self (take l.i l.piece) l.self × (fed_to l.self ≤ fed_to l.initial.self + l.i)
