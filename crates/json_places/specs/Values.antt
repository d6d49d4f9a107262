-- Where the value at a path begins in a JSON text. What begins somewhere is told by the bytes that are left from there
-- to the end. The entries of an array are its elements, those of an object its members.
use Rattle.std.specs.Prelude.{ℕ, ◌-◌, ◌||◌, nat_eq, bytes_eq, Bool, if◌then◌else◌, List, [], ◌∷◌, length, take, drop}
use Rattle.std.specs.Prelude.{Option, Some, None, codes}
use Rattle.std.specs.List.{slice_get}
use Rattle.std.specs.Option.{option_map, option_and_then, option_or}
use Rattle.json_places.specs.declared.places.Places.{Places}
use Rattle.json_places.specs.declared.spot.Spot.{Spot}
use Rattle.json_places.specs.declared.spot.Spot.TheVariants.{Plain}
use Rattle.json_places.specs.Spots.{closes, ends, parts, spot_behind}

abbrev pub is_blank : ℕ → Bool
is_blank byte = nat_eq byte 32 || nat_eq byte 9 || nat_eq byte 10 || nat_eq byte 13

-- what is left behind blanks
abbrev pub behind_blanks : List ℕ → List ℕ
behind_blanks [] = []
behind_blanks (byte ∷ others) = if is_blank byte then behind_blanks others else byte ∷ others

-- what is left behind these bytes, where it begins with them
abbrev pub behind : List ℕ → List ℕ → Option (List ℕ)
behind front bytes = if bytes_eq (take (length front) bytes) front then Some (drop (length front) bytes) else None

-- the value that begins here, behind blanks; none at the end, and before a bracket that closes
abbrev pub value_from : List ℕ → Option (List ℕ)
value_from [] = None
value_from (byte ∷ others) = if closes byte then None else Some (byte ∷ others)

abbrev pub value_in : List ℕ → Option (List ℕ)
value_in bytes = value_from (behind_blanks bytes)

-- within an array or an object, the entries that begin behind a byte that stands so: each behind a comma, up to the
-- bracket that closes
abbrev pub entries_behind : Spot → List ℕ → List (List ℕ)
entries_behind spot [] = []
entries_behind spot (byte ∷ others) =
    if ends spot byte then []
    else (if parts spot byte then others ∷ entries_behind (Plain 0) others
    else entries_behind (spot_behind spot byte) others)

-- the entries behind the one that begins here
abbrev pub next_entries : List ℕ → List (List ℕ)
next_entries entry = entries_behind (Plain 0) entry

-- this one and those behind it: of what is left behind the bracket that opens, all entries
abbrev pub entries : List ℕ → List (List ℕ)
entries entry = entry ∷ next_entries entry

-- the element with this number, counted from 0
abbrev pub element : ℕ → List ℕ → Option (List ℕ)
element n bytes =
    option_and_then value_in (option_and_then (λ inside. slice_get (entries inside) n) (behind (codes "[") bytes))

-- what is left behind a key that is spelled with no escapes
abbrev pub behind_key : List ℕ → List ℕ → Option (List ℕ)
behind_key key bytes =
    option_and_then (behind (codes "\"")) (option_and_then (behind key) (behind (codes "\"") bytes))

-- the value of a member, if this is its key
abbrev pub value_under : List ℕ → List ℕ → Option (List ℕ)
value_under key member =
    option_and_then value_in
    (option_and_then (λ rest. behind (codes ":") (behind_blanks rest)) (behind_key key (behind_blanks member)))

-- of several members with one key the last one counts
abbrev pub last_under : List ℕ → List (List ℕ) → Option (List ℕ)
last_under key [] = None
last_under key (member ∷ others) = option_or (last_under key others) (value_under key member)

-- the value under a key of an object
abbrev pub member : List ℕ → List ℕ → Option (List ℕ)
member key bytes = option_and_then (λ inside. last_under key (entries inside)) (behind (codes "{") bytes)

-- the element with a number, if there is one; else the value itself
abbrev pub some_element : Option ℕ → List ℕ → Option (List ℕ)
some_element None value = Some value
some_element (Some n) value = element n value

-- the value at places within a value, outermost first
abbrev pub value_within : Places → List ℕ → Option (List ℕ)
value_within places value =
    option_and_then (some_element places.third)
    (option_and_then (some_element places.second) (some_element places.first value))

-- at how many bytes from the beginning the value begins that stands at places under a key of the text's object; none
-- where there is no such value
abbrev pub value_at : List ℕ → List ℕ → Places → Option ℕ
value_at bytes key places =
    option_map (λ value. length bytes - length value)
    (option_and_then (value_within places) (member key (behind_blanks bytes)))
