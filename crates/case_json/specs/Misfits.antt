-- Where a value of a case does not fit: the places within it, outermost first, of the first part that is not what it
-- should be. None where it fits.
use Rattle.std.specs.Prelude.{ℕ, ◌+◌, Bool, true, if◌then◌else◌, List, [], ◌∷◌, Option, Some, None, codes, is_some}
use Rattle.std.specs.Prelude.{◌||◌}
use Rattle.std.specs.Option.{option_map, option_or}
use Rattle.serde_json.specs.Data.{Data}
use Rattle.ot_model.specs.declared.op.Kind.{Kind}
use Rattle.ot_model.specs.Kinds.{has_char}
use Rattle.case_json.specs.Json.{elements_of, char_in, is_word}
use Rattle.case_json.specs.Operations.{kind_in, number_in, position_in}
use Rattle.json_places.specs.declared.places.Places.{Places}

-- the value itself
abbrev pub here : Places
here = record { first = None; second = None; third = None }

-- places within an element of an array: of a value of a file there are three at most
abbrev pub inside : ℕ → Places → Places
inside i places = record { first = Some i; second = places.first; third = places.second }

-- an element of an array
abbrev pub place : ℕ → Places
place i = inside i here

-- a part at a place does not fit, unless it is what it should be
abbrev pub unless : Bool → Places → Option Places
unless fits places = if fits then None else Some places

-- the places within a part at a place
abbrev pub within : ℕ → Option Places → Option Places
within i misfit = option_map (inside i) misfit

-- of elements, of which the first stands at this place, the first that does not fit
abbrev pub elements_misfit : (Data → Option Places) → ℕ → List Data → Option Places
elements_misfit misfit i [] = None
elements_misfit misfit i (x ∷ others) = option_or (within i (misfit x)) (elements_misfit misfit (i + 1) others)

-- an array, each of whose elements is to fit
abbrev pub of_elements : (Data → Option Places) → Option (List Data) → Option Places
of_elements misfit None = Some here
of_elements misfit (Some elements) = elements_misfit misfit 0 elements

abbrev pub array_misfit : (Data → Option Places) → Data → Option Places
array_misfit misfit json = of_elements misfit (elements_of json)

-- a site, or a number that names an operation
abbrev pub number_misfit : Data → Option Places
number_misfit json = unless (is_some (number_in json)) here

-- an order
abbrev pub order_misfit : Data → Option Places
order_misfit json = array_misfit number_misfit json

-- the values behind the word of an operation with a character: a position, a character and a site
abbrev pub with_char_misfit : List Data → Option Places
with_char_misfit (at ∷ ch ∷ site ∷ []) =
    option_or (unless (is_some (position_in at)) (place 1))
    (option_or (unless (is_some (char_in ch)) (place 2)) (unless (is_some (number_in site)) (place 3)))
with_char_misfit others = Some here

-- those of one without: a position and a site
abbrev pub without_char_misfit : List Data → Option Places
without_char_misfit (at ∷ site ∷ []) =
    option_or (unless (is_some (position_in at)) (place 1)) (unless (is_some (number_in site)) (place 2))
without_char_misfit others = Some here

-- those of an operation of a kind, if its word is one of a kind
abbrev pub values_misfit : Option Kind → List Data → Option Places
values_misfit None values = Some (place 0)
values_misfit (Some k) values = if has_char k then with_char_misfit values else without_char_misfit values

-- an operation, of the elements of its array
abbrev pub operation_from_misfit : Option (List Data) → Option Places
operation_from_misfit None = Some here
operation_from_misfit (Some []) = Some here
operation_from_misfit (Some (word ∷ values)) = values_misfit (kind_in word) values

abbrev pub operation_misfit : Data → Option Places
operation_misfit json = operation_from_misfit (elements_of json)

-- an event of two elements behind its word
abbrev pub pair_misfit : Bool → (Data → Option Places) → Data → Data → Option Places
pair_misfit named what site value =
    option_or (unless named (place 0)) (option_or (within 1 (number_misfit site)) (within 2 (what value)))

-- an event of a session
abbrev pub session_event_from_misfit : Option (List Data) → Option Places
session_event_from_misfit (Some (word ∷ site ∷ what ∷ [])) =
    if is_word (codes "make") word then pair_misfit true operation_misfit site what
    else pair_misfit (is_word (codes "take") word) number_misfit site what
session_event_from_misfit others = Some here

abbrev pub session_event_misfit : Data → Option Places
session_event_misfit json = session_event_from_misfit (elements_of json)

-- an event of a hub
abbrev pub hub_event_from_misfit : Option (List Data) → Option Places
hub_event_from_misfit (Some (word ∷ client ∷ [])) =
    option_or (unless (is_word (codes "up") word || is_word (codes "down") word) (place 0))
    (within 1 (number_misfit client))
hub_event_from_misfit (Some (word ∷ client ∷ op ∷ [])) =
    pair_misfit (is_word (codes "edit") word) operation_misfit client op
hub_event_from_misfit others = Some here

abbrev pub hub_event_misfit : Data → Option Places
hub_event_misfit json = hub_event_from_misfit (elements_of json)
