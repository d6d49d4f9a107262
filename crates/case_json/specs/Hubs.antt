-- The reading of the script of a hub: what its bytes are read as, a script or the first fault in the order of the
-- tests. It has the parts of a session's script; the number under `sites` is that of the clients.
use Rattle.std.specs.Prelude.{ℕ, if◌then◌else◌, List, [], ◌∷◌, Option, None, Result, Ok}
use Rattle.std.specs.Prelude.{codes, option_and_then}
use Rattle.std.specs.Option.{option_map}
use Rattle.serde_json.specs.Data.{Data}
use Rattle.case_json.specs.declared.fault.CaseFault.{CaseFault}
use Rattle.case_json.specs.declared.hub.HubEvent.{HubEvent}
use Rattle.case_json.specs.declared.hub.HubEvent.TheVariants.{Edit, Up, Down}
use Rattle.case_json.specs.declared.hub.HubScript.{HubScript}
use Rattle.case_json.specs.declared.parts.Parts.{Parts}
use Rattle.case_json.specs.Faults.{and_then_read}
use Rattle.case_json.specs.Json.{elements_of, is_word}
use Rattle.case_json.specs.Operations.{number_in}
use Rattle.case_json.specs.Parts.{parts_in, with_operation, AreWithinLimits}

-- `["up", CLIENT]` or `["down", CLIENT]`
abbrev pub move_from : Data → Data → Option HubEvent
move_from word client =
    if is_word (codes "up") word then option_map Up (number_in client)
    else (if is_word (codes "down") word then option_map Down (number_in client) else None)

-- `["edit", CLIENT, OPERATION]`
abbrev pub edit_from : Data → Data → Data → Option HubEvent
edit_from word client op = if is_word (codes "edit") word then with_operation Edit client op else None

-- an event of a hub, of the elements of its array
abbrev pub hub_event_from : List Data → Option HubEvent
hub_event_from (word ∷ client ∷ []) = move_from word client
hub_event_from (word ∷ client ∷ op ∷ []) = edit_from word client op
hub_event_from others = None

-- the event of a hub that a value is
abbrev pub hub_event_in : Data → Option HubEvent
hub_event_in json = option_and_then hub_event_from (elements_of json)

-- a script of its parts
abbrev pub hub_script_of : Parts HubEvent → HubScript
hub_script_of parts = record { doc = parts.doc; clients = parts.sites; events = parts.events }

-- what the bytes of a hub's script are read as
abbrev pub hub_script_in : List ℕ → Result HubScript CaseFault
hub_script_in bytes = and_then_read (parts_in hub_event_in bytes) (λ parts. Ok (hub_script_of parts))

-- a script of a hub that can be played: within the limits
abbrev pub IsHubPlayable : HubScript → Type 0
IsHubPlayable script = AreWithinLimits script.doc script.clients script.events
