use Rattle.std.proofs.Common.{◌≡◌, ◌<◌, ◌∷◌, length, take}
use Rattle.cert_text.specs.Numbers.{AreShort}
use Rattle.cert_text.specs.Cycles.{IsShortNumber, cycle_text}
use Rattle.cert_text.proofs.piece.whole_numbers.Given as goal

abbrev pub invariant-loop-i : goal.invariant-loop-i
invariant-loop-i l =
    (length l.picks < 12) × AreShort l.picks × IsShortNumber l.number
    × (cycle_text l.picks l.number ≡ 120 ∷ take l.i l.bytes)
