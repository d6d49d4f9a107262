-- What one byte makes of the front of a token.
use Rattle.std.specs.Prelude.{◌≡◌, ℕ, ◌<◌, List, ◌++◌, length}
use Rattle.fn_rules.specs.declared.function.ObName.{ObName}
use Rattle.fn_rules.specs.declared.function.Level.{Level}
use Rattle.cert_text.specs.declared.line.TheConstants.{LINE_ROOM}
use Rattle.cert_text.specs.declared.line.Fit.{Fit}
use Rattle.cert_text.specs.declared.line.Fit.TheVariants as fit
use Rattle.cert_text.specs.Spelling.{header_text}

-- how a line begins with some bytes: it is them, or more, or something else
abbrev pub FitsLine : List ℕ → List ℕ → Fit → Type 0
FitsLine line front fit.Whole = line ≡ front
FitsLine line front fit.Front = (more : List ℕ) × (0 < length more) × (line ≡ front ++ more)
FitsLine line front fit.Other = (more : List ℕ) → line ≡ front ++ more → ⊥

-- the same of the header of a level, if the level has obligations
abbrev pub FitsHeader : List ObName → Level → List ℕ → Fit → Type 0
FitsHeader names level front fit.Whole = (0 < length names) × (header_text names level ≡ front)
FitsHeader names level front fit.Front =
    (0 < length names) × (length front < LINE_ROOM)
    × ((more : List ℕ) × (0 < length more) × (header_text names level ≡ front ++ more))
FitsHeader names level front fit.Other = 0 < length names → (more : List ℕ) → header_text names level ≡ front ++ more
    → ⊥
