-- What becomes of a text that is written.
use Rattle.std.specs.Prelude.{◌≡◌, ℕ, List, ◌++◌}

-- what stood there still stands in front
abbrev pub ExtendsText : List ℕ → List ℕ → Type 0
ExtendsText old new = (more : List ℕ) × (new ≡ old ++ more)
