-- How the bytes within an array or an object stand: in its strings, and in the brackets that are opened within it. A
-- string ends at the first quote that is not escaped; a bracket in a string is none.
use Rattle.std.specs.Prelude.{ℕ, zero, suc, ◌-◌, ◌||◌, nat_eq, Bool, false, if◌then◌else◌}
use Rattle.json_places.specs.declared.spot.Spot.{Spot}
use Rattle.json_places.specs.declared.spot.Spot.TheVariants.{Plain, Quoted, Escaped}

abbrev pub quote : ℕ
quote = 34

abbrev pub backslash : ℕ
backslash = 92

abbrev pub comma : ℕ
comma = 44

-- a bracket that opens an array or an object
abbrev pub opens : ℕ → Bool
opens byte = nat_eq byte 91 || nat_eq byte 123

-- one that closes it
abbrev pub closes : ℕ → Bool
closes byte = nat_eq byte 93 || nat_eq byte 125

-- how the byte stands that comes behind this one
abbrev pub spot_behind : Spot → ℕ → Spot
spot_behind (Escaped depth) byte = Quoted depth
spot_behind (Quoted depth) byte =
    if nat_eq byte quote then Plain depth
    else (if nat_eq byte backslash then Escaped depth else Quoted depth)
spot_behind (Plain depth) byte =
    if nat_eq byte quote then Quoted depth
    else (if opens byte then Plain (suc depth)
    else (if closes byte then Plain (depth - 1) else Plain depth))

-- the byte is the bracket that closes the array or the object itself
abbrev pub ends : Spot → ℕ → Bool
ends (Plain zero) byte = closes byte
ends spot byte = false

-- the byte is a comma between two of its entries
abbrev pub parts : Spot → ℕ → Bool
parts (Plain zero) byte = nat_eq byte comma
parts spot byte = false

-- in how many brackets the byte stands
abbrev pub depth_of : Spot → ℕ
depth_of (Plain depth) = depth
depth_of (Quoted depth) = depth
depth_of (Escaped depth) = depth
