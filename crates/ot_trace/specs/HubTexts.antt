-- The lines of a hub, event by event. Texts are bytes.
use Rattle.std.specs.Prelude.{◌≡◌, ◌≢◌, ℕ, nat_eq, if◌then◌else◌, List, [], ◌∷◌, ◌++◌, Option, Some, None, codes}
use Rattle.std.specs.Prelude.{slice_get, Bool, Ok, Err, option_map}
use Rattle.std.specs.Fmt.{decimal}
use Rattle.std.specs.List.{flat_map}
use Rattle.ot_model.specs.declared.cell.Cell.{Cell}
use Rattle.ot_model.specs.declared.op.Op.{Op}
use Rattle.fn_rules.specs.Functions.{Function}
use Rattle.fn_rules.specs.Transformation.{transform_of}
use Rattle.case_json.specs.declared.hub.HubEvent.{HubEvent}
use Rattle.case_json.specs.declared.hub.HubEvent.TheVariants as events
use Rattle.case_json.specs.declared.hub.HubScript.{HubScript}
use Rattle.ot_hub.specs.declared.answer.Edit.{Edit}
use Rattle.ot_hub.specs.declared.answer.Edit.TheVariants as edits
use Rattle.ot_hub.specs.declared.answer.Move.{Move}
use Rattle.ot_hub.specs.declared.answer.Move.TheVariants as moves
use Rattle.ot_hub.specs.declared.answer.Moved.{Moved}
use Rattle.ot_hub.specs.declared.crossing.Crossing.{Crossing}
use Rattle.ot_hub.specs.declared.placed.Entry.{Entry}
use Rattle.ot_hub.specs.declared.placed.PlacedOp.{PlacedOp}
use Rattle.ot_hub.specs.Crossings.{up_crossings, down_crossings}
use Rattle.ot_hub.specs.Views.{HubData, begun_hub, client_of, HasEdited, HasMoved, up_step, down_step}
use Rattle.ot_ways.specs.declared.one_step.Step.{Step}
use Rattle.ot_trace.specs.Columns.{columns, two_columns}
use Rattle.ot_trace.specs.Events.{IsTold, TracesBy}
use Rattle.ot_ways.specs.Steps.{step_of}
use Rattle.ot_steps.specs.StepTexts.{choice_text, result_text, short_op}
use Rattle.ot_trace.specs.Texts.{done_line, step_line}

-- the name of an event, by its number and by where it happens
abbrev pub server_event : ℕ → List ℕ
server_event i = codes "event " ++ decimal i ++ codes " server"

abbrev pub client_event : ℕ → ℕ → List ℕ
client_event i c = codes "event " ++ decimal i ++ codes " client " ++ decimal c

-- whose operation it was
abbrev pub from_client : ℕ → List ℕ
from_client c = codes "from client " ++ decimal c

-- what became of an operation that another one was carried over
abbrev pub back_line : Function → Step → List ℕ
back_line f s = columns (codes "    which becomes") (result_text s.result) (choice_text f s.result s.taken)

-- two operations that cross: what each becomes, with the cases that are taken
abbrev pub crossing_lines : Function → Crossing → List ℕ
crossing_lines f c = step_line f (step_of f c.own c.other) ++ back_line f (step_of f c.other c.own)

-- what an operation has become that crossed others, one after the other
abbrev pub form_after : Function → Option Op → List Crossing → Option Op
form_after f form [] = form
form_after f form (c ∷ cs) = form_after f (transform_of f c.own c.other) cs

-- an operation was executed, if there is one, and this is the document after it
abbrev pub done_text : Option Op → List Cell → List ℕ
done_text None d = []
done_text (Some p) d = done_line p d

-- a client made an operation, and this is its document then
abbrev pub edit_text : ℕ → ℕ → Op → List Cell → List ℕ
edit_text i c o d = two_columns (client_event i c) (short_op o) ++ done_line o d

-- the server is to take the oldest message of a client, if there is one
abbrev pub message_line : ℕ → ℕ → Option PlacedOp → List ℕ
message_line i c None = columns (server_event i) (codes "nothing") (from_client c)
message_line i c (Some message) = columns (server_event i) (short_op message.op) (from_client c)

-- the operation of a message, if there is one
abbrev pub message_op : Option PlacedOp → Option Op
message_op message = option_map (λ m. m.op) message

-- the message, and what it crosses
abbrev pub up_front : HubData → ℕ → ℕ → List ℕ
up_front hub i c =
    message_line i c (slice_get (client_of hub c).messages 0)
    ++ flat_map (crossing_lines hub.function) (up_crossings hub c)

-- the same, and what the server executed
abbrev pub up_text : HubData → ℕ → ℕ → List Cell → List ℕ
up_text hub i c d =
    up_front hub i c
    ++ done_text (form_after hub.function (message_op (slice_get (client_of hub c).messages 0)) (up_crossings hub c)) d

-- a client is to take the next entry of the log, if there is one: its own, or that of another client
abbrev pub entry_line : ℕ → ℕ → Option Entry → List ℕ
entry_line i c None = two_columns (client_event i c) (codes "nothing")
entry_line i c (Some entry) =
    columns (client_event i c) (short_op entry.op)
    (if nat_eq entry.client c then codes "own" else from_client entry.client)

-- the operation of an entry that is another client's
abbrev pub entry_op : ℕ → Option Entry → Option Op
entry_op c None = None
entry_op c (Some entry) = if nat_eq entry.client c then None else Some entry.op

-- the entry, and what it crosses
abbrev pub down_front : HubData → ℕ → ℕ → List ℕ
down_front hub i c =
    entry_line i c (slice_get hub.server.log (client_of hub c).received)
    ++ flat_map (crossing_lines hub.function) (down_crossings hub c)

-- the same, and what the client executed
abbrev pub down_text : HubData → ℕ → ℕ → List Cell → List ℕ
down_text hub i c d =
    down_front hub i c
    ++ done_text (form_after hub.function (entry_op c (slice_get hub.server.log (client_of hub c).received))
    (down_crossings hub c)) d

-- an event is done, and this is told of it
abbrev pub TellsHubEvent : HubData → ℕ → HubEvent → HubData → List ℕ → Type 0
TellsHubEvent hub i (events.Edit c o) new line =
    HasEdited hub new c o (Ok tt) × (line ≡ edit_text i c o (client_of new c).doc)
TellsHubEvent hub i (events.Up c) new line =
    (moved : Moved) × HasMoved hub new c (up_step hub c) (Ok moved) × (line ≡ up_text hub i c new.server.doc)
TellsHubEvent hub i (events.Down c) new line =
    (moved : Moved) × HasMoved hub new c (down_step hub c) (Ok moved) × (line ≡ down_text hub i c (client_of new c).doc)

-- what is told of an operation that is not moved: what it crosses, where it is stuck
abbrev pub stopped_text : Move → List ℕ → List ℕ
stopped_text moves.NoSite front = []
stopped_text moves.Stuck front = front
stopped_text moves.NoMemory front = []

-- an event is refused, and this is told of it
abbrev pub StopsHubEvent : HubData → ℕ → HubEvent → List ℕ → Type 0
StopsHubEvent hub i (events.Edit c o) line =
    (reason : Edit) × (new : HubData) × HasEdited hub new c o (Err reason) × (reason ≢ edits.NoMemory) × (line ≡ [])
StopsHubEvent hub i (events.Up c) line =
    (reason : Move) × (new : HubData) × HasMoved hub new c (up_step hub c) (Err reason) × (reason ≢ moves.NoMemory)
    × (line ≡ stopped_text reason (up_front hub i c))
StopsHubEvent hub i (events.Down c) line =
    (reason : Move) × (new : HubData) × HasMoved hub new c (down_step hub c) (Err reason) × (reason ≢ moves.NoMemory)
    × (line ≡ stopped_text reason (down_front hub i c))

-- an event went on, or was refused, and this was told of it
abbrev pub IsHubEventTold : HubData → ℕ → HubEvent → HubData → Bool → List ℕ → List ℕ → Type 0
IsHubEventTold hub i event new went before after = IsTold TellsHubEvent StopsHubEvent hub i event new went before after

-- what is told of events, of which the first has this number
abbrev pub TracesHub : HubData → ℕ → List HubEvent → List ℕ → List ℕ → Type 0
TracesHub hub i script before after = TracesBy TellsHubEvent StopsHubEvent hub i script before after

-- what is told of a hub, event by event
abbrev pub TracesHubScript : Function → HubScript → List ℕ → List ℕ → Type 0
TracesHubScript f script before after = TracesHub (begun_hub f script.doc script.clients) 0 script.events before after
