use Rattle.std.proofs.Common.{◌≡◌, ℕ, ◌<◌, List, [], ◌∷◌, ◌++◌, length, take}
use Rattle.cert_text.specs.Numbers.{AreShort, numbers_text}
use Rattle.cert_check.specs.Walks.{IsWalkOf}
use Rattle.ot_sections.proofs.cycle.cycle_of.Given as goal

-- the numbers that came are those of the walk
abbrev pub invariant-loop-count : goal.invariant-loop-count
invariant-loop-count l =
    (picks : List ℕ) × (length picks ≡ l.count) × AreShort picks × (numbers_text picks ≡ take l.at l.bytes)
    × (l.at < length l.bytes) × IsWalkOf (l.lits ++ l.last ∷ []) picks l.walk
