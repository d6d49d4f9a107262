-- The clients of a hub, by their places: client 1 stands first.
use Rattle.std.specs.Prelude.{◌<◌, ◌≤◌, ℕ, List, [], drop, length, unwrap_or, slice_get}
use Rattle.ot_model.specs.declared.op.Op.{Op}
use Rattle.ot_model.specs.Effect.{IsEnabled}
use Rattle.fn_rules.specs.Functions.{Function}
use Rattle.ot_hub.specs.declared.client.Client.{Client}
use Rattle.ot_hub.specs.declared.limits.TheConstants.{MAX_EDITS}
use Rattle.ot_hub.specs.Usable.{CanBeCarried}

-- there is such a client; clients are numbered from 1
pub record IsClient (clients c : ℕ) : Type 0 where
  pub low : 1 ≤ c
  pub high : c ≤ clients

-- who stands where no client is
abbrev pub nobody : Client
nobody = record { edits = 0; received = 0; pending = []; messages = []; doc = [] }

-- the client at a place
abbrev pub client_at : List Client → ℕ → Client
client_at clients place = unwrap_or (slice_get clients place) nobody

-- a client after its oldest message was sent
abbrev pub sent : Client → Client
sent client = record client { messages = drop 1 client.messages }

-- a client may make an operation
pub record CanEdit (o : Op) (client : Client) : Type 0 where
  pub enabled : IsEnabled o (length client.doc)
  pub few : client.edits < MAX_EDITS

-- a client may take an entry of the log
pub record CanTakeEntry (f : Function) (o : Op) (client : Client) : Type 0 where
  pub usable : CanBeCarried f o client.pending
  pub few : client.received < MAX_EDITS
