-- The steps of a hub: a client makes an operation, the server takes a message, a client takes an entry of the log.
use Rattle.std.specs.Prelude.{◌≡◌, ◌+◌, ◌-◌, ℕ, nat_eq, List, [], ◌∷◌, ◌++◌, length, map, drop, Option, Some, None}
use Rattle.std.specs.Prelude.{unwrap_or, slice_get, slice_set, if◌then◌else◌, Result, Ok, Err}
use Rattle.ot_model.specs.declared.op.Op.{Op}
use Rattle.ot_model.specs.declared.op.Mode.{Mode}
use Rattle.ot_model.specs.Effect.{is_enabled, document_after}
use Rattle.fn_rules.specs.Functions.{Function}
use Rattle.ot_hub.specs.declared.answer.Move.{Move}
use Rattle.ot_hub.specs.declared.answer.Move.TheVariants as moves
use Rattle.ot_hub.specs.declared.client.Client.{Client}
use Rattle.ot_hub.specs.declared.placed.PlacedOp.{PlacedOp}
use Rattle.ot_hub.specs.declared.placed.Entry.{Entry}
use Rattle.ot_hub.specs.declared.server.Server.{Server}
use Rattle.ot_hub.specs.Carry.{Carried, carry, from_place}

-- what a step comes to: there is nothing to move, it is stuck, or it leads on
pub data Step (X : Type 0) : Type 0 where
  Nothing : Step X
  Stuck : Step X
  To : X → Step X

-- the step of a whole, by that of a part
abbrev pub step_map : {X Y : Type 0} → (X → Y) → Step X → Step Y
step_map whole Nothing = Nothing
step_map whole Stuck = Stuck
step_map whole (To next) = To (whole next)

-- goes on with what was carried, where that is possible and what it became is enabled on so many cells
abbrev pub goes_on : {X : Type 0} → Option Carried → ℕ → (Carried → X) → Step X
goes_on None cells go = Stuck
goes_on (Some carried) cells go = if is_enabled carried.op cells then To (go carried) else Stuck

-- the entries by which the server transforms what a client sends
abbrev pub ahead_of : Server → ℕ → List PlacedOp
ahead_of server c = unwrap_or (slice_get server.ahead (c - 1)) []

-- the server after what a client's message became: it is executed, stands at the end of the log, and goes to each other
-- client; what it was carried over was carried over it
abbrev pub server_after : Mode → ℕ → Carried → Server → Server
server_after mode c carried server = record {
  log = server.log ++ record { client = c; op = carried.op } ∷ [];
  doc = document_after mode carried.op server.doc;
  ahead = slice_set (map (λ list. list ++ record { place = length server.log; op = carried.op } ∷ []) server.ahead)
      (c - 1) carried.list;
}

-- the server takes a message: it is carried over the entries that the client had not received when it made it
abbrev pub server_step : Function → ℕ → PlacedOp → Server → Step Server
server_step f c message server =
    goes_on (carry f message.op (from_place message.place (ahead_of server c))) (length server.doc)
    (λ carried. server_after f.head.mode c carried server)

-- a client after it made an operation: it is executed, pending, and on its way
abbrev pub edited : Mode → Op → Client → Client
edited mode o client = record {
  edits = client.edits + 1;
  received = client.received;
  pending = client.pending ++ record { place = client.received; op = o } ∷ [];
  messages = client.messages ++ record { place = client.received; op = o } ∷ [];
  doc = document_after mode o client.doc;
}

-- a client after what an entry became: it is executed, and what it was carried over was carried over it
abbrev pub client_after : Mode → Carried → Client → Client
client_after mode carried client = record client {
  received = client.received + 1;
  pending = carried.list;
  doc = document_after mode carried.op client.doc;
}

-- a client after an entry of its own, which is the oldest that is pending and was executed when it was made
abbrev pub confirmed : Client → Client
confirmed client = record client { received = client.received + 1; pending = drop 1 client.pending }

-- a client takes an entry: one of another client is carried over what is pending
abbrev pub client_step : Function → ℕ → Entry → Client → Step Client
client_step f c entry client =
    if nat_eq entry.client c
    then To (confirmed client)
    else goes_on (carry f entry.op client.pending) (length client.doc)
    (λ carried. client_after f.head.mode carried client)

-- the step leads on
abbrev pub IsTo : {X : Type 0} → Step X → Type 0
IsTo Nothing = ⊥
IsTo Stuck = ⊥
IsTo (To next) = Unit {0}

-- a part took a step, with this answer; want of memory hides no other one, and nothing changes where nothing is done
abbrev pub HasStepped : {X R : Type 0} → X → X → Step X → Result R Move → Type 0
HasStepped old new step (Ok done) = step ≡ To new
HasStepped old new step (Err moves.NoSite) = ⊥
HasStepped old new step (Err moves.Stuck) = (step ≡ Stuck) × (new ≡ old)
HasStepped old new step (Err moves.NoMemory) = IsTo step × (new ≡ old)
