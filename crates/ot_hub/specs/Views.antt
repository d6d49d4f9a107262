-- A hub, seen as plain data, and what its calls answer.
use Rattle.std.specs.Prelude.{◌≡◌, ◌≢◌, ◌-◌, ℕ, Bool, true, false, List, [], ◌∷◌, length, replicate, Option, Some, None}
use Rattle.std.specs.Prelude.{slice_get, slice_set, Result, Ok, Err}
use Rattle.std.specs.List.{sum_by}
use Rattle.ot_model.specs.declared.cell.Cell.{Cell}
use Rattle.ot_model.specs.declared.op.Op.{Op}
use Rattle.ot_model.specs.Operations.{kind_of, site_of}
use Rattle.ot_model.specs.Effect.{IsEnabled}
use Rattle.fn_rules.specs.Functions.{Function, HasDeclaredKind}
use Rattle.fn_rules.specs.Rules.{function_of}
use Rattle.ot_hub.specs.declared.answer.Edit.{Edit}
use Rattle.ot_hub.specs.declared.answer.Edit.TheVariants as edits
use Rattle.ot_hub.specs.declared.answer.Move.{Move}
use Rattle.ot_hub.specs.declared.answer.Move.TheVariants as moves
use Rattle.ot_hub.specs.declared.answer.Moved.{Moved}
use Rattle.ot_hub.specs.declared.answer.Moved.TheVariants.{Done}
use Rattle.ot_hub.specs.declared.answer.Moved.TheVariants as moved
use Rattle.ot_hub.specs.declared.client.Client.{Client}
use Rattle.ot_hub.specs.declared.hub.Hub.{Hub}
use Rattle.ot_hub.specs.declared.limits.TheConstants.{MAX_EDITS}
use Rattle.ot_hub.specs.declared.placed.Entry.{Entry}
use Rattle.ot_hub.specs.declared.placed.PlacedOp.{PlacedOp}
use Rattle.ot_hub.specs.declared.server.Server.{Server}
pub use Rattle.ot_hub.specs.Clients.{IsClient}
use Rattle.ot_hub.specs.Clients.{client_at, sent}
use Rattle.ot_hub.specs.Steps.{Step, Nothing, Stuck, To, step_map, IsTo, server_step, client_step, edited}

pub record HubData : Type 0 where
  pub function : Function
  pub first : List Cell
  pub server : Server
  pub clients : List Client
  pub is_open : Bool

abbrev pub hub_view_of : Hub → HubData
hub_view_of hub = record {
  function = function_of hub.rules;
  first = hub.first;
  server = hub.server;
  clients = hub.clients.items;
  is_open = hub.is_open;
}

-- the same hub, in which nothing more is made or moved
abbrev pub closed_hub : HubData → HubData
closed_hub hub = record hub { is_open = false }

-- the client with a number
abbrev pub client_of : HubData → ℕ → Client
client_of hub c = client_at hub.clients (c - 1)

-- a new hub: it is open, each of so many clients holds the document, and so does the server
abbrev pub begun_hub : Function → List Cell → ℕ → HubData
begun_hub f d clients = record {
  function = f;
  first = d;
  server = record { log = []; doc = d; ahead = replicate clients [] };
  clients = replicate clients (record { edits = 0; received = 0; pending = []; messages = []; doc = d });
  is_open = true;
}

-- how many operations all clients made
abbrev pub all_edits : HubData → ℕ
all_edits hub = sum_by (λ client. client.edits) hub.clients

-- the hub after a client made an operation
abbrev pub after_edit : HubData → ℕ → Op → HubData
after_edit hub c o = record hub {
  clients = slice_set hub.clients (c - 1)
      (edited hub.function.head.mode o (client_of hub c));
}

-- the tests that an operation passes that a client makes, in their order
pub record PassesSite (hub : HubData) (c : ℕ) (o : Op) : Type 0 where
  pub there : IsClient (length hub.clients) c
  pub own : site_of o ≡ Some c

pub record PassesKind (hub : HubData) (c : ℕ) (o : Op) : Type 0 where
  pub site : PassesSite hub c o
  pub declared : HasDeclaredKind hub.function.head (kind_of o)

pub record PassesAll (hub : HubData) (c : ℕ) (o : Op) : Type 0 where
  pub kind : PassesKind hub c o
  pub enabled : IsEnabled o (length (client_of hub c).doc)

-- a client was asked to make an operation, and this is the answer
abbrev pub HasEdited : HubData → HubData → ℕ → Op → Result (Unit {0}) Edit → Type 0
HasEdited old new c o (Ok done) = PassesAll old c o × (all_edits old ≢ MAX_EDITS) × (new ≡ after_edit old c o)
HasEdited old new c o (Err edits.NoSite) = (¬ (IsClient (length old.clients) c)) × (new ≡ old)
HasEdited old new c o (Err edits.WrongSite) = IsClient (length old.clients) c × (site_of o ≢ Some c) × (new ≡ old)
HasEdited old new c o (Err edits.WrongKind) = PassesSite old c o × (¬ (HasDeclaredKind old.function.head (kind_of o)))
    × (new ≡ old)
HasEdited old new c o (Err edits.NotEnabled) = PassesKind old c o × (¬ (IsEnabled o (length (client_of old c).doc)))
    × (new ≡ old)
HasEdited old new c o (Err edits.Full) = PassesAll old c o × (all_edits old ≡ MAX_EDITS) × (new ≡ old)
HasEdited old new c o (Err edits.NoMemory) = PassesAll old c o × (all_edits old ≢ MAX_EDITS) × (new ≡ closed_hub old)

-- the server takes the oldest message of a client, if there is one
abbrev pub up_with : HubData → ℕ → List PlacedOp → Step HubData
up_with hub c [] = Nothing
up_with hub c (message ∷ others) =
    step_map (λ server. record hub {
      server = server;
      clients = slice_set hub.clients (c - 1)
          (sent (client_of hub c));
    })
    (server_step hub.function c message hub.server)

abbrev pub up_step : HubData → ℕ → Step HubData
up_step hub c = up_with hub c (client_of hub c).messages

-- a client takes the next entry of the log, if there is one
abbrev pub down_with : HubData → ℕ → Option Entry → Step HubData
down_with hub c None = Nothing
down_with hub c (Some entry) =
    step_map (λ client. record hub { clients = slice_set hub.clients (c - 1) client })
    (client_step hub.function c entry (client_of hub c))

abbrev pub down_step : HubData → ℕ → Step HubData
down_step hub c = down_with hub c (slice_get hub.server.log (client_of hub c).received)

-- an operation was to be moved by a step, and this is the answer
abbrev pub HasMoved : HubData → HubData → ℕ → Step HubData → Result Moved Move → Type 0
HasMoved old new c step (Ok Done) = IsClient (length old.clients) c × (step ≡ To new)
HasMoved old new c step (Ok moved.Nothing) = IsClient (length old.clients) c × (step ≡ Nothing) × (new ≡ old)
HasMoved old new c step (Err moves.NoSite) = (¬ (IsClient (length old.clients) c)) × (new ≡ old)
HasMoved old new c step (Err moves.Stuck) = IsClient (length old.clients) c × (step ≡ Stuck) × (new ≡ closed_hub old)
HasMoved old new c step (Err moves.NoMemory) = IsClient (length old.clients) c × IsTo step × (new ≡ closed_hub old)
