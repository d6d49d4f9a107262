use Rattle.std.proofs.Common.{◌≡◌, ◌<◌, take}
use Rattle.std.specs.Fmt.{decimal}
use Rattle.cert_text.specs.Numbers.{PICK_LIMIT}
use Rattle.cert_text.proofs.piece.number_front.Given as goal

abbrev pub invariant-loop-i : goal.invariant-loop-i
invariant-loop-i l = (l.number < PICK_LIMIT) × (decimal l.number ≡ take l.i l.bytes)
