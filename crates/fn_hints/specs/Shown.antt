-- The line of a file as it is shown, and where the mark under it stands.
use Rattle.std.specs.Prelude.{ℕ, ◌+◌, ◌-◌, ◌==◌, Bool, not, ◌&&◌, if◌then◌else◌, nat_le, nat_lt, List, [], ◌∷◌, ◌++◌}
use Rattle.std.specs.Prelude.{map, take, drop, length, codes}
use Rattle.std.specs.List.{prefix_len}
use Rattle.fn_tokens.specs.Tokens.{is_blank, is_line_end}

-- what stands behind so many line ends
abbrev pub behind_line_ends : ℕ → List ℕ → List ℕ
behind_line_ends n [] = []
behind_line_ends n (byte ∷ rest) =
    if n == 0 then byte ∷ rest else behind_line_ends (if is_line_end byte then n - 1 else n) rest

-- the bytes of a line, counted from 1, without its end
abbrev pub is_inside : ℕ → Bool
is_inside byte = not (is_line_end byte)

abbrev pub front_line : List ℕ → List ℕ
front_line bytes = take (prefix_len is_inside bytes) bytes

abbrev pub line_in : ℕ → List ℕ → List ℕ
line_in line bytes = front_line (behind_line_ends (line - 1) bytes)

-- of a line 72 bytes are shown, from its front on where the mark stands within the first 60, and otherwise from 40
-- bytes before the mark on
abbrev pub left_out : ℕ → ℕ
left_out column = if nat_le column 60 then 0 else column - 41

abbrev pub window : ℕ → List ℕ → List ℕ
window left line = take 72 (drop left line)

-- a byte as it is shown: blanks as a space, and one that is no printable character of ASCII as a question mark
abbrev pub shown_byte : ℕ → ℕ
shown_byte byte = if is_blank byte then 32 else (if nat_le 32 byte && nat_le byte 126 then byte else 63)

-- three dots stand for what is left out
abbrev pub dots : Bool → List ℕ
dots some = if some then codes "..." else []

abbrev pub shown_line : ℕ → List ℕ → List ℕ
shown_line column line =
    dots (nat_lt 0 (left_out column)) ++ map shown_byte (window (left_out column) line)
    ++ dots (nat_lt (left_out column + 72) (length line))

-- how many bytes of what is shown stand before the mark
abbrev pub mark_at : ℕ → ℕ
mark_at column = if nat_le column 60 then column - 1 else 43
