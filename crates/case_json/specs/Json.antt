-- What bytes hold as JSON, and the parts that cases are made of: members of an object, lists, whole
-- numbers and single characters. `Data` is what serde_json says that a text is.
use Rattle.std.specs.Prelude.{ℕ, Bool, List, [], ◌∷◌, Option, Some, None, if◌then◌else◌, nat_le, chars, bytes_eq}
use Rattle.std.specs.Option.{option_map, option_and_then, option_eq}
use Rattle.std.specs.Str.{is_utf8}
use Rattle.serde_json.specs.Data.{Data, Items, no_items, item}
use Rattle.serde_json.specs.Read.{read}
use Rattle.serde_json.specs.Find.{as_str, as_array, as_number, as_u64}

-- the value that bytes are read as: none where they are not UTF-8, or have no reading
abbrev pub json_in : List ℕ → Option Data
json_in bytes = if is_utf8 bytes then read bytes else None

-- the items of an array, in their order
abbrev pub list_of : Items → List Data
list_of no_items = []
list_of (item first others) = first ∷ list_of others

-- the elements of a value that is an array
abbrev pub elements_of : Data → Option (List Data)
elements_of json = option_map list_of (as_array json)

-- what a reader makes of the elements one by one; none where it makes nothing of one of them
abbrev pub each : {A B : Type 0} → (A → Option B) → List A → Option (List B)
each reader [] = Some []
each reader (x ∷ xs) = option_and_then (λ first. option_map (λ others. first ∷ others) (each reader xs)) (reader x)

-- a number that is not too great
abbrev pub up_to : ℕ → ℕ → Option ℕ
up_to most n = if nat_le n most then Some n else None

-- a whole number that is not too great: serde_json gives it as an unsigned integer
abbrev pub number_up_to : ℕ → Data → Option ℕ
number_up_to most json = option_and_then (up_to most) (option_and_then as_u64 (as_number json))

-- the member of a list of one
abbrev pub only : {A : Type 0} → List A → Option A
only [] = None
only (x ∷ []) = Some x
only (x ∷ y ∷ others) = None

-- the character of a string of one
abbrev pub char_in : Data → Option ℕ
char_in json = option_and_then (λ text. only (chars text)) (as_str json)

-- the value is this string
abbrev pub is_word : List ℕ → Data → Bool
is_word word json = option_eq bytes_eq (as_str json) (Some word)
