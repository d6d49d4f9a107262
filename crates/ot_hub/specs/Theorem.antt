-- What is proved of every hub: how its server's document hangs together with the log and how many operations are in the
-- log and on their way, whatever its function; and how its clients' documents do where the function has TP1.
use Rattle.std.specs.Prelude.{◌≡◌, ◌⊎◌, ℕ, List, [], ◌∷◌, take, length, Ok}
use Rattle.ot_model.specs.declared.cell.Cell.{Cell}
use Rattle.ot_model.specs.declared.op.Op.{Op}
use Rattle.fn_rules.specs.Functions.{Function}
use Rattle.ot_hub.specs.declared.answer.Moved.{Moved}
use Rattle.ot_hub.specs.declared.placed.Entry.{Entry}
use Rattle.ot_hub.specs.Chains.{document_after_all}
use Rattle.ot_hub.specs.Clients.{IsClient}
use Rattle.ot_hub.specs.InStep.{operations, AreCountedEdits}
use Rattle.ot_hub.specs.Views.{HubData, HasEdited, HasMoved, client_of, up_step, down_step}

-- the first document of a hub after entries of its log, one after the other
abbrev pub after_entries : HubData → List Entry → List Cell
after_entries hub entries = document_after_all hub.function.head.mode (operations entries) hub.first

-- the server's document is the first one after the log
abbrev pub ServerFollowsLog : HubData → Type 0
ServerFollowsLog hub = hub.server.doc ≡ after_entries hub hub.server.log

-- a client's document is the first one after the entries that it received, in order, and then what is pending there; so
-- one that received the whole log and has nothing pending holds the server's
pub record FollowsLog (hub : HubData) : Type 0 where
  pub clients : (c : ℕ) → IsClient (length hub.clients) c → (client_of hub c).doc
      ≡ document_after_all hub.function.head.mode (client_of hub c).pending
      (after_entries hub (take (client_of hub c).received hub.server.log))
  pub one_document : (c : ℕ) → IsClient (length hub.clients) c → (client_of hub c).received ≡ length hub.server.log
      → (client_of hub c).pending ≡ [] → (client_of hub c).doc ≡ hub.server.doc

-- a call was done on a hub, and this is the hub after it: a client made an operation, the server was to take a message
-- of a client, or a client the next entry of the log
abbrev pub IsNext : HubData → HubData → Type 0
IsNext old new =
    ((c : ℕ) × (o : Op) × HasEdited old new c o (Ok tt))
    ⊎ (((c : ℕ) × (moved : Moved) × HasMoved old new c (up_step old c) (Ok moved))
    ⊎ ((c : ℕ) × (moved : Moved) × HasMoved old new c (down_step old c) (Ok moved)))

-- calls were done on a hub, one after the other: these are the hubs after each of them, and this is the last one
abbrev pub LeadTo : HubData → List HubData → HubData → Type 0
LeadTo hub [] last = last ≡ hub
LeadTo hub (next ∷ others) last = IsNext hub next × LeadTo next others last

-- what is so of a hub that began with a function and a document, whatever was done on it: it still has both, the
-- server's document is the first one after the log, and the entries of each client in the log and its messages on their
-- way are together as many as its edits
pub record KeepsLog (f : Function) (d : List Cell) (hub : HubData) : Type 0 where
  pub function : hub.function ≡ f
  pub first : hub.first ≡ d
  pub server : ServerFollowsLog hub
  pub counted : AreCountedEdits hub.server.log hub.clients
