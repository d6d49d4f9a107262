-- The path of a fault: the key of a part of a file, and the places in arrays under it, outermost first.
use Rattle.std.specs.Prelude.{ℕ, List, Option, Some, None, codes, unwrap_or}
use Rattle.std.specs.Option.{option_and_then, option_map}
use Rattle.serde_json.specs.Data.{Data}
use Rattle.serde_json.specs.Find.{get}
use Rattle.case_json.specs.declared.fault.CaseFault.{CaseFault}
use Rattle.case_json.specs.declared.fault.CaseFault.TheVariants as faults
use Rattle.case_json.specs.declared.fault.Name.{Name}
use Rattle.case_json.specs.declared.fault.Name.TheVariants as names
use Rattle.case_json.specs.declared.path.EventCause.{EventCause}
use Rattle.case_json.specs.declared.path.EventCause.TheVariants as causes
use Rattle.case_json.specs.declared.path.FaultPath.{FaultPath}
use Rattle.case_json.specs.declared.path.Layout.{Layout}
use Rattle.case_json.specs.declared.path.Layout.TheVariants as layouts
use Rattle.json_places.specs.declared.line.LineColumn.{LineColumn}
use Rattle.json_places.specs.declared.places.Places.{Places}
use Rattle.json_places.specs.Lines.{line_column}
use Rattle.json_places.specs.Values.{value_at}
use Rattle.case_json.specs.Misfits.{array_misfit, here, hub_event_misfit, inside, operation_misfit, order_misfit, place}
use Rattle.case_json.specs.Misfits.{session_event_misfit}

-- the key of a part
abbrev pub key_of : Name → List ℕ
key_of names.Doc = codes "doc"
key_of names.Ops = codes "ops"
key_of names.Orders = codes "orders"
key_of names.Sites = codes "sites"
key_of names.Events = codes "events"
key_of names.Cells = codes "doc"

-- where an event of a file does not fit
abbrev pub event_misfit : Layout → Data → Option Places
event_misfit layouts.Hub json = hub_event_misfit json
event_misfit layout json = session_event_misfit json

-- where a part of a file does not fit: a part that is no array does not fit as a whole
abbrev pub part_misfit : Layout → Name → Data → Option Places
part_misfit layout names.Ops json = array_misfit operation_misfit json
part_misfit layout names.Orders json = array_misfit order_misfit json
part_misfit layout names.Events json = array_misfit (event_misfit layout) json
part_misfit layout part json = None

-- the places under a key, where the part is there and does not fit
abbrev pub places_in : Layout → Name → Option Data → Places
places_in layout part json =
    unwrap_or (option_and_then (λ whole. option_and_then (part_misfit layout part) (get (key_of part) whole)) json) here

-- the part of a file of which there is too much: the operations of a session and of a hub stand in its events
abbrev pub limited_part : Layout → Name → Name
limited_part layouts.Case part = part
limited_part layout names.Ops = names.Events
limited_part layout part = part

-- the path of a fault in a file of this layout; none where it is no JSON
abbrev pub path_of : Layout → Option Data → CaseFault → Option FaultPath
path_of layout json faults.Json = None
path_of layout json (faults.Field part) = Some (record { part = part; places = places_in layout part json })
path_of layout json (faults.Kind i) = Some (record { part = names.Ops; places = inside i (place 0) })
path_of layout json (faults.Enabled i) = Some (record { part = names.Ops; places = inside i (place 1) })
path_of layout json (faults.Pair i j) = Some (record { part = names.Ops; places = place j })
path_of layout json (faults.Order i) = Some (record { part = names.Orders; places = place i })
path_of layout json (faults.Limit part) = Some (record { part = limited_part layout part; places = here })

-- the part of an event that is wrong: what names a site that is not there, or an operation that was not made, or the
-- operation's own site, its word, or its position
abbrev pub cause_places : EventCause → Places
cause_places causes.Site = place 1
cause_places causes.Owner = place 2
cause_places causes.Kind = inside 2 (place 0)
cause_places causes.Enabled = inside 2 (place 1)
cause_places causes.Number = place 2

-- the path of what is wrong with the event with this number
abbrev pub event_path_of : ℕ → EventCause → FaultPath
event_path_of i cause = record { part = names.Events; places = inside i (cause_places cause) }

-- the line and the column at which the value at a path begins, if there is one
abbrev pub line_column_of : List ℕ → FaultPath → Option LineColumn
line_column_of bytes path = option_map (line_column bytes) (value_at bytes (key_of path.part) path.places)
