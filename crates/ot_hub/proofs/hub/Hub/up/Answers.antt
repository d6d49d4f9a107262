use Rattle.std.proofs.Common.{◌≡◌, ◌+◌, ◌-◌, ◌<◌, ℕ, List, [], ◌∷◌, ◌++◌, true, false, length, map, Some, None, refl}
use Rattle.std.proofs.Common.{sym, ap, ◌∙◌, subst, arith, length-append}
use Rattle.std.specs.Prelude.{slice_set, slice_get, Err}
use Rattle.std.proofs.Math.Logic.{∥∥₁_elim, ∥∥₁_map}
use Rattle.std.proofs.lemmas.List.{length-set, length-map}
use Rattle.std.specs.Vec.{with_items}
use Rattle.ot_model.specs.declared.op.Mode.{Mode}
use Rattle.fn_rules.specs.Functions.{Function}
use Rattle.fn_rules.specs.Rules.{function_of}
use Rattle.ot_hub.specs.declared.client.Client.{Client}
use Rattle.ot_hub.specs.declared.placed.PlacedOp.{PlacedOp}
use Rattle.ot_hub.specs.declared.placed.Entry.{Entry}
use Rattle.ot_hub.specs.declared.answer.Move.TheVariants as moves
use Rattle.ot_hub.specs.Chains.{document_after_all}
use Rattle.ot_hub.specs.InStep.{AreInStep, AreCountedEdits, operations}
use Rattle.ot_hub.specs.declared.server.Server.{Server}
use Rattle.ot_hub.specs.Clients.{client_at, sent}
use Rattle.ot_hub.specs.declared.limits.TheConstants.{MAX_EDITS}
use Rattle.ot_hub.specs.Carry.{carry, from_place}
use Rattle.ot_hub.specs.Kept.{IsServerKept}
use Rattle.ot_hub.specs.Usable.{IsUsable, most_hub_cells}
use Rattle.ot_hub.specs.Steps.{server_step, server_after, ahead_of, Step, step_map}
use Rattle.ot_hub.proofs.Keeping.{WentOn, goes_on-to, one-kept, one-messages, IsServerKept-after, IsHubKept-up}
use Rattle.ot_hub.proofs.Kept.{All-at}
use Rattle.ot_hub.proofs.Near.{KeepsNear, keeps_near}
use Rattle.ot_hub.specs.Views.{HubData, hub_view_of, IsClient, HasMoved}
use Rattle.ot_hub.proofs.Stepping.{up_with-first, up_with-none, some_first, HasMoved-refused, refused-same}
use Rattle.ot_hub.proofs.Acting.{done-not_stuck, no_site-not_stuck, refusal-stuck, inside_of, client_read, items_set}
use Rattle.ot_hub.proofs.Sending.{follows-after}
use Rattle.ot_hub.proofs.Together.{led_to, not_stuck, AreCountedEdits-up, AreInStep-up}
use Rattle.ot_hub.proofs.hub.Hub.up.Goals.{In-Some, After-sent_at}
use Rattle.ot_hub.proofs.hub.Hub.up.Goals as goal

-- the client of the call
abbrev client_of : In-Some → Client
client_of c = client_at c.args.self.now.clients.items (c.args.client - 1)

there : (c : In-Some) → IsClient (length c.args.self.now.clients.items) c.args.client
there c = c.if-not-has_client.ensures.0 refl

inside : (c : In-Some) → c.args.client - 1 < length c.args.self.now.clients.items
inside c = inside_of c.args.self.now.clients.items c.args.client (there c)

-- its oldest message
first : (c : In-Some) → Some c.in-Some.message ≡ slice_get (client_of c).messages 0
first c = rw (client_read c.args.self.now.clients.items c.args.client c.index.result.now (there c) c.index.ensures)
    c.in-Some.ensures

some : (c : In-Some) → 0 < length (client_of c).messages
some c = some_first (client_of c).messages c.in-Some.message (first c)

-- it can be taken
usable : (c : In-Some) → IsUsable (function_of c.args.self.now.rules) most_hub_cells c.in-Some.message.op
usable c =
    let s = c.args.self.now in
    All-at (λ b. IsUsable (function_of s.rules) most_hub_cells b.op) (client_of c).messages 0 c.in-Some.message
    (one-kept (function_of s.rules) s.made s.server s.clients.items s.kept (c.args.client - 1) (inside c)).messages
    (sym (first c))

few : (c : In-Some) → length c.args.self.now.server.log < MAX_EDITS
few c =
    let s = c.args.self.now in
    omega (
      arith,
      some c,
      s.kept.few,
      one-messages (function_of s.rules) s.made s.server s.clients.items s.kept
          (c.args.client - 1) (inside c),
    )

-- the client has sent it, and is set in the list of all
items_sent :
    (c : After-sent_at)
    → (with_items c.args.self.now.clients c.sent_at.new.clients).items
    ≡ slice_set c.args.self.now.clients.items (c.args.client - 1)
    (sent (client_at c.args.self.now.clients.items (c.args.client - 1)))
items_sent c =
    let s = c.args.self.now in
    let place : ℕ = c.args.client - 1 in
    items_set s.clients place (sent (client_at s.clients.items place)) c.sent_at.new.clients
    (rw (← c.deref_mut.ensures.value) c.sent_at.ensures)

-- there is no such client
pub returns-then-not-has_client-clause-moved : goal.returns-then-not-has_client-clause-moved
returns-then-not-has_client-clause-moved c =
    (λ there. let wrong : false ≡ true = c.if-not-has_client.ensures.1 there in cc, refl)

pub returns-then-not-has_client-clause-never_stuck : goal.returns-then-not-has_client-clause-never_stuck
returns-then-not-has_client-clause-never_stuck c tp1 chars = no_site-not_stuck

-- the client has no message
pub returns-in_default-clause-moved : goal.returns-in_default-clause-moved
returns-in_default-clause-moved c =
    let s = c.args.self.now in
    let all : List Client = s.clients.items in
    let one : Client = client_at all (c.args.client - 1) in
    let there : IsClient (length all) c.args.client = c.if-not-has_client.ensures.0 refl in
    let client_is : one ≡ c.index.result.now = client_read all c.args.client c.index.result.now there c.index.ensures in
    let none : slice_get one.messages 0 ≡ None = rw client_is (sym c.in_default.ensures) in
    (there, up_with-none (hub_view_of s) c.args.client one.messages none, refl)

pub returns-in_default-clause-never_stuck : goal.returns-in_default-clause-never_stuck
returns-in_default-clause-never_stuck c tp1 chars = done-not_stuck _

-- the message can be taken
pub take-requires-clause-kept : goal.take-requires-clause-kept
take-requires-clause-kept c = c.args.self.now.kept.server

pub take-requires-clause-few : goal.take-requires-clause-few
take-requires-clause-few c = few (goal.at.take-requires-clause-few c).In-Some

pub take-requires-clause-low : goal.take-requires-clause-low
take-requires-clause-low c = let there = c.if-not-has_client.ensures.0 refl in there.low

pub take-requires-clause-high : goal.take-requires-clause-high
take-requires-clause-high c =
    let there = c.if-not-has_client.ensures.0 refl in
    omega (arith, there.high, c.args.self.now.kept.sides)

pub take-requires-clause-usable : goal.take-requires-clause-usable
take-requires-clause-usable c = usable (goal.at.take-requires-clause-usable c).In-Some

-- a server that refused is as it was, and so is what is kept
pub invariant_of-self-in-Err : goal.invariant_of-self-in-Err
invariant_of-self-in-Err c =
    let s = c.args.self.now in
    let new : Server = c.take.new.self in
    let same : new ≡ s.server =
    refused-same s.server new (server_step (function_of s.rules) c.args.client c.in-Some.message s.server)
    c.in-Err.refusal c.in-Err.ensures in
    record {
      small = s.small;
      kept = rw same s.kept;
      followed = rw same s.followed;
      counted = rw same s.counted;
      in_step = rw same s.in_step;
    }

pub returns-in-Ok-clause-never_stuck : goal.returns-in-Ok-clause-never_stuck
returns-in-Ok-clause-never_stuck c tp1 chars = done-not_stuck _

-- the hub stays kept, counted and in step where the server took the message
pub invariant_of-self : goal.invariant_of-self
invariant_of-self c =
    let at = goal.at.invariant_of-self c in
    let m : In-Some = at.In-Some in
    let s = c.args.self.now in
    let f : Function = function_of s.rules in
    let all : List Client = s.clients.items in
    let place : ℕ = c.args.client - 1 in
    let one : Client = client_at all place in
    let message : PlacedOp = c.in-Some.message in
    let has : KeepsNear f =
    keeps_near f c.functions_keep_forms.ensures c.transform_stays_near.ensures
    c.enabled_operations_are_near.ensures.wider c.rules_are_valid.ensures in
    let new : Server = c.take.new.self in
    let mode : Mode = f.head.mode in
    let went : WentOn (carry f message.op (from_place message.place (ahead_of s.server c.args.client)))
    (length s.server.doc)
    (λ carried. server_after mode c.args.client carried s.server) new =
    goes_on-to (carry f message.op (from_place message.place (ahead_of s.server c.args.client))) (length s.server.doc)
    (λ carried. server_after mode c.args.client carried s.server) new c.in-Ok.ensures in
    let new_kept : IsServerKept f new = subst (λ (server : Server). IsServerKept f server) went.new_is
    (IsServerKept-after f has c.documents_grow_by_one_cell_at_most.ensures mode c.args.client went.it s.server
    s.kept.server (few m) message.place message.op (usable m) (omega (arith, inside m, s.kept.sides)) went.is) in
    let longer : length new.log ≡ length s.server.log + 1 =
    ap (λ (server : Server). length server.log) (sym went.new_is)
    ∙ length-append s.server.log (record { client = c.args.client; op = went.it.op } ∷ []) in
    let told : List (List PlacedOp) =
    map (λ list. list ++ record { place = length s.server.log; op = went.it.op } ∷ []) s.server.ahead in
    let sides : length new.ahead ≡ length s.server.ahead =
    ap (λ (server : Server). length server.ahead) (sym went.new_is) ∙ length-set told place went.it.list
    ∙ length-map s.server.ahead (λ list. list ++ record { place = length s.server.log; op = went.it.op } ∷ []) in
    let items = items_sent at.After-sent_at in
    record {
      small = s.small;
      kept = rw items
          (IsHubKept-up f has.wider s.made s.server new all s.kept place (inside m) (some m) new_kept longer sides);
      followed = subst (λ (server : Server). server.doc ≡ document_after_all mode (operations server.log) s.first)
          went.new_is (follows-after mode s.first c.args.client went.it s.server s.followed);
      counted = rw items (subst (λ (log : List Entry). AreCountedEdits log (slice_set all place (sent one)))
          (ap (λ (server : Server). server.log) went.new_is)
          (AreCountedEdits-up s.server.log all s.counted c.args.client (there m) went.it.op (some m)));
      in_step = λ tp1 chars. rw items (∥∥₁_map (s.in_step tp1 chars) (λ k.
          led_to (λ (server : Server). AreInStep f s.first server (slice_set all place (sent one)))
          (server_step f c.args.client message s.server) new
          (AreInStep-up f (c.functions_keep_forms.ensures f) (c.tp1_holds_of_forms.ensures f tp1) chars
          (c.transform_keeps_all_but_the_position.ensures f)
          s.first s.server all k c.args.client (there m) message (first m) s.kept.sides) c.in-Ok.ensures));
    }

-- the server's step is done, the message is gone, and so the hub's step is done
pub returns-in-Ok-clause-moved : goal.returns-in-Ok-clause-moved
returns-in-Ok-clause-moved c =
    let at = goal.at.returns-in-Ok-clause-moved c in
    let m : In-Some = at.In-Some in
    let s = c.args.self.now in
    let all : List Client = s.clients.items in
    let place : ℕ = c.args.client - 1 in
    let one : Client = client_at all place in
    let message : PlacedOp = c.in-Some.message in
    let items = items_sent at.After-sent_at in
    let hub : HubData = hub_view_of s in
    let whole : Server → HubData = λ server.
    record hub { server = server; clients = slice_set all place (sent one) } in (
      there m,
      up_with-first hub c.args.client one.messages message (first m)
          ∙ rw items (ap (step_map whole) c.in-Ok.ensures),
    )

-- the server's step was refused, and so was that of the hub
pub returns-in-Err-clause-moved : goal.returns-in-Err-clause-moved
returns-in-Err-clause-moved c =
    let m : In-Some = (goal.at.returns-in-Err-clause-moved c).In-Some in
    let s = c.args.self.now in
    let f : Function = function_of s.rules in
    let all : List Client = s.clients.items in
    let place : ℕ = c.args.client - 1 in
    let one : Client = client_at all place in
    let message : PlacedOp = c.in-Some.message in
    let hub : HubData = hub_view_of s in
    let after : HubData = record hub { server = c.take.new.self; is_open = false } in
    let whole : Server → HubData = λ server. record hub { server = server; clients = slice_set all place (sent one) } in
    subst (λ (step : Step HubData). HasMoved hub after c.args.client step (Err c.in-Err.refusal))
    (sym (up_with-first hub c.args.client one.messages message (first m)))
    (HasMoved-refused hub after c.args.client (there m) s.server c.take.new.self
    (server_step f c.args.client message s.server) whole c.in-Err.refusal c.in-Err.ensures
    (ap (λ (server : Server). record hub { server = server; is_open = false })))

-- a server in step is not stuck
pub returns-in-Err-clause-never_stuck : goal.returns-in-Err-clause-never_stuck
returns-in-Err-clause-never_stuck c tp1 chars is =
    let m : In-Some = (goal.at.returns-in-Err-clause-never_stuck c).In-Some in
    let s = c.args.self.now in
    let f : Function = function_of s.rules in
    let all : List Client = s.clients.items in
    let place : ℕ = c.args.client - 1 in
    let one : Client = client_at all place in
    let message : PlacedOp = c.in-Some.message in
    let stuck : c.in-Err.refusal ≡ moves.Stuck = refusal-stuck c.in-Err.refusal is in
    ∥∥₁_elim (s.in_step tp1 chars) (hlevel) (λ k.
    not_stuck (λ (server : Server). AreInStep f s.first server (slice_set all place (sent one))) s.server
    c.take.new.self (server_step f c.args.client message s.server) c.in-Err.refusal
    (AreInStep-up f (c.functions_keep_forms.ensures f) (c.tp1_holds_of_forms.ensures f tp1) chars
    (c.transform_keeps_all_but_the_position.ensures f)
    s.first s.server all k c.args.client (there m) message (first m) s.kept.sides) c.in-Err.ensures stuck)
