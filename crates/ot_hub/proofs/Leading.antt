-- What each call keeps of a hub, and so what is so of each hub to which calls lead from a new one.
use Rattle.std.proofs.Common.{◌≡◌, ◌-◌, ℕ, false, List, [], ◌∷◌, ◌++◌, length, map, Option, Some, None, Ok, refl, sym}
use Rattle.std.proofs.Common.{ap, ◌∙◌, subst, inl, inr, arith, length-append}
use Rattle.std.specs.Prelude.{nat_eq, slice_get, slice_set}
use Rattle.std.proofs.lemmas.Bool.{cases_Bool}
use Rattle.std.proofs.lemmas.List.{length-map, length-replicate, length-set}
use Rattle.ot_model.specs.declared.cell.Cell.{Cell}
use Rattle.ot_model.specs.declared.op.Op.{Op}
use Rattle.ot_model.specs.Operations.{kind_of}
use Rattle.fn_rules.specs.Functions.{Function}
use Rattle.fn_rules.specs.Transformation.{transform_of}
use Rattle.fn_rules.specs.Conditions.{IsFormOf}
use Rattle.fn_rules.specs.Forms.{KeepsForms, ConvergesOnForms}
use Rattle.fn_rules.specs.Properties.{HasTp1}
use Rattle.ot_hub.specs.declared.answer.Moved.{Moved}
use Rattle.ot_hub.specs.declared.answer.Moved.TheVariants as moved
use Rattle.ot_hub.specs.declared.client.Client.{Client}
use Rattle.ot_hub.specs.declared.placed.Entry.{Entry}
use Rattle.ot_hub.specs.declared.placed.PlacedOp.{PlacedOp}
use Rattle.ot_hub.specs.declared.server.Server.{Server}
use Rattle.ot_hub.specs.Carry.{Carried, carry, from_place}
use Rattle.ot_hub.specs.Clients.{IsClient, sent}
use Rattle.ot_hub.specs.InStep.{AreInStep, AreCountedEdits}
use Rattle.ot_hub.specs.Steps.{Step, Nothing, Stuck, To, step_map, ahead_of, client_after, client_step, confirmed}
use Rattle.ot_hub.specs.Steps.{edited, goes_on, server_after, server_step}
use Rattle.ot_hub.specs.Theorem.{FollowsLog, IsNext, KeepsLog, LeadTo, ServerFollowsLog}
use Rattle.ot_hub.specs.Views.{HubData, HasEdited, HasMoved, begun_hub, client_of, down_step, down_with, up_step}
use Rattle.ot_hub.specs.Views.{up_with}
use Rattle.ot_hub.proofs.Beginning.{AreCountedEdits-begun, AreInStep-begun_hub}
use Rattle.ot_hub.proofs.Follows.{follows}
use Rattle.ot_hub.proofs.Keeping.{IsForKind-declared, WentOn, goes_on-to}
use Rattle.ot_hub.proofs.Sending.{follows-after}
use Rattle.ot_hub.proofs.Stepping.{some_first}
use Rattle.ot_hub.proofs.Together.{led_to, AreCountedEdits-same, AreCountedEdits-set, AreCountedEdits-up}
use Rattle.ot_hub.proofs.Together.{AreInStep-down, AreInStep-edited, AreInStep-up}

-- what each call keeps of a hub that began with a function and a document
record HoldsTogether (f : Function) (d : List Cell) (hub : HubData) : Type 0 where
  function : hub.function ≡ f
  first : hub.first ≡ d
  sides : length hub.server.ahead ≡ length hub.clients
  server : ServerFollowsLog hub
  counted : AreCountedEdits hub.server.log hub.clients
  in_step : HasTp1 hub.function → hub.function.head.chars_differ ≡ false
      → AreInStep hub.function hub.first hub.server hub.clients

-- the part that a step of a whole leads to
record PartTo {X Y : Type 0} (whole : X → Y) (step : Step X) (new : Y) : Type 0 where
  part : X
  is : step ≡ To part
  new_is : whole part ≡ new

part_to : {X Y : Type 0} (whole : X → Y) (step : Step X) (new : Y)
    → step_map whole step ≡ To new → PartTo whole step new
part_to whole Nothing new is = cc
part_to whole Stuck new is = cc
part_to whole (To part) new is = let same : whole part ≡ new = cc in record { part = part; is = refl; new_is = same }

-- what stays of a client that takes an entry
record KeepsMade (old new : Client) : Type 0 where
  edits : new.edits ≡ old.edits
  messages : new.messages ≡ old.messages

keeps_made : (f : Function) (c : ℕ) (entry : Entry) (old new : Client)
    → client_step f c entry old ≡ To new → KeepsMade old new
keeps_made f c entry old new is = elim (cases_Bool (nat_eq entry.client c)) [
  | inl own ↦
      (let led : To (confirmed old) ≡ To new = rw own at is in
      let same : confirmed old ≡ new = cc in
      subst (λ (x : Client). KeepsMade old x) same (record { edits = refl; messages = refl }))
  | inr other ↦
      (let led : goes_on (carry f entry.op old.pending) (length old.doc)
      (λ carried. client_after f.head.mode carried old) ≡ To new = rw other at is in
      let went : WentOn (carry f entry.op old.pending) (length old.doc)
      (λ carried. client_after f.head.mode carried old) new =
      goes_on-to (carry f entry.op old.pending) (length old.doc)
      (λ carried. client_after f.head.mode carried old) new led in
      subst (λ (x : Client). KeepsMade old x) went.new_is (record { edits = refl; messages = refl }))
]

module _ (keeps : (f : Function) → KeepsForms f) (converging : (f : Function) → HasTp1 f → ConvergesOnForms f)
    (is_form : (f : Function) (a b form : Op) → transform_of f a b ≡ Some form → IsFormOf a form)
    (f : Function) (d : List Cell) where
  begun-held : (clients : ℕ) → HoldsTogether f d (begun_hub f d clients)
  begun-held clients = record {
    function = refl;
    first = refl;
    sides = length-replicate clients _ ∙ sym (length-replicate clients _);
    server = refl;
    counted = AreCountedEdits-begun d clients;
    in_step = λ tp1 chars. AreInStep-begun_hub d clients f;
  }

  module _ (hub : HubData) (held : HoldsTogether f d hub) (c : ℕ) where
    abbrev one : Client
    one = client_of hub c

    -- a client made an operation
    edited-held : (new : HubData) (o : Op) → HasEdited hub new c o (Ok tt) → HoldsTogether f d new
    edited-held new o (passes, few, is) = subst (HoldsTogether f d) (sym is) (record {
      function = held.function;
      first = held.first;
      sides = held.sides ∙ sym (length-set hub.clients (c - 1) (edited hub.function.head.mode o one));
      server = held.server;
      counted = AreCountedEdits-set hub.server.log hub.clients held.counted c passes.kind.site.there
          (edited hub.function.head.mode o one)
          (omega (arith, length-append one.messages (record { place = one.received; op = o } ∷ [])));
      in_step = λ tp1 chars. AreInStep-edited hub.function (keeps hub.function) (converging hub.function tp1) chars
          (is_form hub.function) hub.first hub.server hub.clients (held.in_step tp1 chars) c passes.kind.site.there o
          (record {
            declared = IsForKind-declared hub.function.head (kind_of o) passes.kind.declared;
            enabled = passes.enabled;
          })
          (λ site has. let both : Some site ≡ Some c = sym has ∙ passes.kind.site.own in cc);
    })

    -- the server took the oldest message of a client
    sent-held : (new : HubData) → IsClient (length hub.clients) c → (messages : List PlacedOp) → one.messages ≡ messages
        → up_with hub c messages ≡ To new → HoldsTogether f d new
    sent-held new there [] are is = cc
    sent-held new there (message ∷ others) are is =
        subst (HoldsTogether f d) (ap whole went.new_is ∙ to.new_is) (record {
          function = held.function;
          first = held.first;
          sides = length-set told (c - 1) went.it.list ∙ length-map hub.server.ahead longer ∙ held.sides
              ∙ sym (length-set hub.clients (c - 1) (sent one));
          server = follows-after hub.function.head.mode hub.first c went.it hub.server held.server;
          counted = AreCountedEdits-up hub.server.log hub.clients held.counted c there went.it.op
              (some_first one.messages message oldest);
          in_step = λ tp1 chars.
              led_to (λ (server : Server). AreInStep hub.function hub.first server (slice_set hub.clients (c - 1)
              (sent one))) (server_step hub.function c message hub.server) (after went.it)
              (AreInStep-up hub.function (keeps hub.function) (converging hub.function tp1) chars (is_form hub.function)
              hub.first hub.server hub.clients (held.in_step tp1 chars) c there message oldest held.sides)
              (to.is ∙ ap (λ (server : Server). To server) (sym went.new_is));
        })
      where
        whole : Server → HubData
        whole server = record hub { server = server; clients = slice_set hub.clients (c - 1) (sent one) }

        to : PartTo whole (server_step hub.function c message hub.server) new
        to = part_to whole (server_step hub.function c message hub.server) new is

        after : Carried → Server
        after carried = server_after hub.function.head.mode c carried hub.server

        went : WentOn (carry hub.function message.op (from_place message.place (ahead_of hub.server c)))
            (length hub.server.doc) after to.part
        went = goes_on-to (carry hub.function message.op (from_place message.place (ahead_of hub.server c)))
            (length hub.server.doc) after to.part to.is

        longer : List PlacedOp → List PlacedOp
        longer list = list ++ record { place = length hub.server.log; op = went.it.op } ∷ []

        told : List (List PlacedOp)
        told = map longer hub.server.ahead

        oldest : Some message ≡ slice_get one.messages 0
        oldest = ap (λ (l : List PlacedOp). slice_get l 0) (sym are)

    -- a client took the next entry of the log
    taken-held : (new : HubData) → IsClient (length hub.clients) c → (entry : Option Entry)
        → slice_get hub.server.log one.received ≡ entry
        → down_with hub c entry ≡ To new → HoldsTogether f d new
    taken-held new there None next is = cc
    taken-held new there (Some entry) next is =
        let to : PartTo (λ (x : Client). record hub { clients = slice_set hub.clients (c - 1) x })
        (client_step hub.function c entry one) new =
        part_to (λ (x : Client). record hub { clients = slice_set hub.clients (c - 1) x })
        (client_step hub.function c entry one) new is in
        let same : KeepsMade one to.part = keeps_made hub.function c entry one to.part to.is in
        subst (HoldsTogether f d) to.new_is (record {
          function = held.function;
          first = held.first;
          sides = held.sides ∙ sym (length-set hub.clients (c - 1) to.part);
          server = held.server;
          counted =
              AreCountedEdits-same hub.server.log hub.clients held.counted c there to.part same.edits same.messages;
          in_step = λ tp1 chars.
              led_to (λ (x : Client). AreInStep hub.function hub.first hub.server (slice_set hub.clients (c - 1) x))
              (client_step hub.function c entry one) to.part
              (AreInStep-down hub.function (keeps hub.function) (converging hub.function tp1) chars (is_form
              hub.function) hub.first hub.server hub.clients (held.in_step tp1 chars) c there entry next) to.is;
        })

    up-held : (new : HubData) (m : Moved) → HasMoved hub new c (up_step hub c) (Ok m) → HoldsTogether f d new
    up-held new moved.Done done = sent-held new done.0 one.messages refl done.1
    up-held new moved.Nothing done = subst (HoldsTogether f d) (sym done.2) held

    down-held : (new : HubData) (m : Moved) → HasMoved hub new c (down_step hub c) (Ok m) → HoldsTogether f d new
    down-held new moved.Done done = taken-held new done.0 (slice_get hub.server.log one.received) refl done.1
    down-held new moved.Nothing done = subst (HoldsTogether f d) (sym done.2) held

  next-held : (old new : HubData) → HoldsTogether f d old → IsNext old new → HoldsTogether f d new
  next-held old new held (inl (c, o, done)) = edited-held old held c new o done
  next-held old new held (inr (inl (c, m, done))) = up-held old held c new m done
  next-held old new held (inr (inr (c, m, done))) = down-held old held c new m done

  led-held : (hub : HubData) (hubs : List HubData) (last : HubData) → HoldsTogether f d hub
      → LeadTo hub hubs last → HoldsTogether f d last
  led-held hub [] last held is = subst (HoldsTogether f d) (sym is) held
  led-held hub (next ∷ others) last held (is, rest) = led-held next others last (next-held hub next held is) rest

  -- so whatever hub they lead to from a new one keeps its log
  pub KeepsLog-led : (clients : ℕ) (hubs : List HubData) (hub : HubData)
      → LeadTo (begun_hub f d clients) hubs hub → KeepsLog f d hub
  KeepsLog-led clients hubs hub led =
      let held : HoldsTogether f d hub = led-held (begun_hub f d clients) hubs hub (begun-held clients) led in
      record { function = held.function; first = held.first; server = held.server; counted = held.counted }

  -- and its clients follow the log where it has the first property
  pub FollowsLog-led : (clients : ℕ) (hubs : List HubData) (hub : HubData)
      → LeadTo (begun_hub f d clients) hubs hub → HasTp1 f
      → f.head.chars_differ ≡ false → FollowsLog hub
  FollowsLog-led clients hubs hub led tp1 chars =
      let held : HoldsTogether f d hub = led-held (begun_hub f d clients) hubs hub (begun-held clients) led in
      follows hub (held.in_step (subst HasTp1 (sym held.function) tp1)
      (ap (λ (g : Function). g.head.chars_differ) held.function ∙ chars))
