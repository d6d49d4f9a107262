-- Columns of a line. Texts are bytes.
use Rattle.std.specs.Prelude.{ℕ, ◌-◌, max, List, ◌++◌, length, replicate}

-- how many spaces there are after a column of so many bytes: up to the width, and at least two
abbrev pub spaces_after : ℕ → ℕ → ℕ
spaces_after width bytes = max 2 (width - bytes)

-- a column, padded with spaces
abbrev pub padded : ℕ → List ℕ → List ℕ
padded width text = text ++ replicate (spaces_after width (length text)) 32
