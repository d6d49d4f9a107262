-- What read_all and write_all leave where they do not come to the end.
use Rattle.std.specs.Prelude.{◌≡◌, ℕ, ◌≤◌, List, ◌++◌, length, take}

-- the first list is the front of the second
abbrev pub IsFront : List ℕ → List ℕ → Type 0
IsFront front bytes = front ≡ take (length front) bytes

-- some bytes from the front were appended
abbrev pub AppendsFront : List ℕ → List ℕ → List ℕ → Type 0
AppendsFront before bytes after = (n : ℕ) × (n ≤ length bytes) × (after ≡ before ++ take n bytes)
