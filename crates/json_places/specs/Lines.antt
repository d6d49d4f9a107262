-- Lines and columns of a place in a text, both from 1. A column counts characters, of which
-- each begins with a byte that does not continue one.
use Rattle.std.specs.Prelude.{ℕ, ◌+◌, ◌&&◌, nat_eq, nat_le, Bool, if◌then◌else◌, List, [], ◌∷◌, take}
use Rattle.json_places.specs.declared.line.LineColumn.{LineColumn}

-- the byte continues a character
abbrev pub continues : ℕ → Bool
continues byte = nat_le 128 byte && nat_le byte 191

-- the place behind a byte
abbrev pub behind_byte : LineColumn → ℕ → LineColumn
behind_byte at byte =
    if nat_eq byte 10 then record { line = at.line + 1; column = 1 }
    else (if continues byte then at else record { line = at.line; column = at.column + 1 })

-- the place behind bytes
abbrev pub behind_bytes : LineColumn → List ℕ → LineColumn
behind_bytes at [] = at
behind_bytes at (byte ∷ others) = behind_bytes (behind_byte at byte) others

-- the line and the column of the byte at a place of a text
abbrev pub line_column : List ℕ → ℕ → LineColumn
line_column text offset = behind_bytes (record { line = 1; column = 1 }) (take offset text)
