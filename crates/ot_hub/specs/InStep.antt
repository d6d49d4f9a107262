-- What TP1 keeps of a hub: each client and the server are on two ways to one document.
use Rattle.std.specs.Prelude.{◌≡◌, ◌≢◌, ◌≤◌, ◌-◌, ◌+◌, ℕ, nat_eq, List, map, take, drop, length, count_by, Some}
use Rattle.std.specs.List.{AllByRecursion}
use Rattle.ot_model.specs.declared.cell.Cell.{Cell}
use Rattle.ot_model.specs.declared.op.Op.{Op}
use Rattle.ot_model.specs.Operations.{site_of}
use Rattle.fn_rules.specs.Functions.{Function}
use Rattle.ot_hub.specs.declared.client.Client.{Client}
use Rattle.ot_hub.specs.declared.placed.PlacedOp.{PlacedOp}
use Rattle.ot_hub.specs.declared.placed.Entry.{Entry}
use Rattle.ot_hub.specs.declared.server.Server.{Server}
use Rattle.ot_hub.specs.Carry.{from_place}
use Rattle.ot_hub.specs.Chains.{document_after_all, IsChain}
use Rattle.ot_hub.specs.Clients.{IsClient, client_at}
use Rattle.ot_hub.specs.Meeting.{Ups, Downs}
use Rattle.ot_hub.specs.Steps.{ahead_of}

-- no other client made the operation; nop, which none made, counts here
abbrev pub IsOf : ℕ → Op → Type 0
IsOf c o = (site : ℕ) → site_of o ≡ Some site → site ≡ c

-- the client did not make the operation
abbrev pub IsOfOthers : ℕ → Op → Type 0
IsOfOthers c o = site_of o ≢ Some c

-- the operations of entries; where each stands in the log is not told
abbrev pub operations : List Entry → List PlacedOp
operations entries = map (λ entry. record { place = 0; op = entry.op }) entries

-- the log leads from the first document to the server's, each entry as its client's
pub record IsServerInStep (f : Function) (first : List Cell) (server : Server) : Type 0 where
  pub chain : IsChain f first (operations server.log)
  pub own : AllByRecursion (λ entry. IsOf entry.client entry.op) server.log
  pub doc : server.doc ≡ document_after_all f.head.mode (operations server.log) first

-- a client's document is the first one after what it received and then what is pending; what it will take leads on from
-- there, the forms of its messages lead on from the server's document, and both lead to one document
pub record IsClientInStep (f : Function) (first : List Cell) (server : Server) (c : ℕ) (client : Client)
    (ahead : List PlacedOp) : Type 0 where
  pub forms : List PlacedOp
  pub kept : List PlacedOp
  pub taken : List PlacedOp
  pub ups : Ups f client.messages ahead forms kept
  pub downs : Downs f c client.received client.pending (drop client.received server.log) forms taken
  pub kept_is : from_place client.received kept ≡ taken
  pub received : client.received ≤ length server.log
  pub made : AllByRecursion (λ message. message.place ≤ client.received) client.messages
  pub doc : client.doc
      ≡ document_after_all f.head.mode client.pending
      (document_after_all f.head.mode (operations (take client.received server.log)) first)
  pub pending :
      IsChain f (document_after_all f.head.mode (operations (take client.received server.log)) first) client.pending
  pub forms_chain : IsChain f server.doc forms
  pub taken_chain : IsChain f client.doc taken
  pub one_document : document_after_all f.head.mode taken client.doc ≡ document_after_all f.head.mode forms server.doc
  pub own : AllByRecursion (λ b. IsOf c b.op) client.pending
  pub own_forms : AllByRecursion (λ b. IsOf c b.op) forms
  pub others : AllByRecursion (λ b. IsOfOthers c b.op) taken

-- the server and each of its clients
pub record AreInStep (f : Function) (first : List Cell) (server : Server) (all : List Client) : Type 0 where
  pub log : IsServerInStep f first server
  pub each : (c : ℕ) → IsClient (length all) c
      → IsClientInStep f first server c (client_at all (c - 1)) (ahead_of server c)

-- the entries of each client in the log and its messages together are as many as its edits
pub record AreCountedEdits (log : List Entry) (all : List Client) : Type 0 where
  pub each : (c : ℕ) → IsClient (length all) c
      → count_by (λ entry. nat_eq entry.client c) log + length (client_at all (c - 1)).messages
      ≡ (client_at all (c - 1)).edits
