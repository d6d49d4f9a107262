-- The reading of the script of a session: what its bytes are read as, a script or the first fault in the order of the
-- tests.
use Rattle.std.specs.Prelude.{ℕ, if◌then◌else◌, List, [], ◌∷◌, Option, None, Result, Ok}
use Rattle.std.specs.Prelude.{codes, option_and_then}
use Rattle.std.specs.Option.{option_map}
use Rattle.serde_json.specs.Data.{Data}
use Rattle.case_json.specs.declared.fault.CaseFault.{CaseFault}
use Rattle.case_json.specs.declared.parts.Parts.{Parts}
use Rattle.case_json.specs.declared.script.Event.{Event}
use Rattle.case_json.specs.declared.script.Event.TheVariants.{Make, Take}
use Rattle.case_json.specs.declared.script.Script.{Script}
use Rattle.case_json.specs.Faults.{and_then_read}
use Rattle.case_json.specs.Json.{elements_of, is_word}
use Rattle.case_json.specs.Operations.{number_in}
use Rattle.case_json.specs.Parts.{parts_in, with_operation, AreWithinLimits}

-- `["make", SITE, OPERATION]`
abbrev pub make_from : Data → Data → Option Event
make_from site op = with_operation Make site op

-- `["take", SITE, NUMBER]`
abbrev pub take_from : Data → Data → Option Event
take_from site taken = option_and_then (λ s. option_map (Take s) (number_in taken)) (number_in site)

-- an event, of the elements of its array
abbrev pub event_from : List Data → Option Event
event_from (word ∷ site ∷ what ∷ []) =
    if is_word (codes "make") word then make_from site what
    else (if is_word (codes "take") word then take_from site what else None)
event_from others = None

-- the event that a value is
abbrev pub event_in : Data → Option Event
event_in json = option_and_then event_from (elements_of json)

-- a script of its parts
abbrev pub script_of : Parts Event → Script
script_of parts = record { doc = parts.doc; sites = parts.sites; events = parts.events }

-- what the bytes of a script are read as
abbrev pub script_in : List ℕ → Result Script CaseFault
script_in bytes = and_then_read (parts_in event_in bytes) (λ parts. Ok (script_of parts))

-- a script that can be played: within the limits
abbrev pub IsPlayable : Script → Type 0
IsPlayable script = AreWithinLimits script.doc script.sites script.events
