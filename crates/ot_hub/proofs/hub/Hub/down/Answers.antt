use Rattle.std.proofs.Common.{◌≡◌, ◌+◌, ◌-◌, ◌<◌, ℕ, true, false, List, length, Some, None, refl, sym, ap, ◌∙◌, subst}
use Rattle.std.proofs.Common.{arith}
use Rattle.std.specs.Prelude.{slice_set, slice_get, Err}
use Rattle.std.proofs.Math.Logic.{∥∥₁_elim, ∥∥₁_map}
use Rattle.std.proofs.lemmas.Option.{slice_get_within}
use Rattle.std.specs.Vec.{with_items}
use Rattle.fn_rules.specs.Functions.{Function}
use Rattle.fn_rules.specs.Rules.{function_of}
use Rattle.ot_hub.specs.declared.client.Client.{Client}
use Rattle.ot_hub.specs.declared.placed.Entry.{Entry}
use Rattle.ot_hub.specs.declared.answer.Move.TheVariants as moves
use Rattle.ot_hub.specs.InStep.{AreInStep}
use Rattle.ot_hub.specs.Clients.{client_at}
use Rattle.ot_hub.specs.Usable.{IsUsable, reach}
use Rattle.ot_hub.specs.Steps.{Step, To, step_map, client_step, HasStepped}
use Rattle.ot_hub.specs.Views.{HubData, hub_view_of, IsClient, down_step, down_with, HasMoved}
use Rattle.ot_hub.proofs.Keeping.{one-kept, CanTakeEntry-kept, IsClientKept-stepped, IsHubKept-down, stepped_to}
use Rattle.ot_hub.proofs.Keeping.{IsClientStepped}
use Rattle.ot_hub.proofs.Kept.{All-at}
use Rattle.ot_hub.proofs.Near.{KeepsNear, keeps_near}
use Rattle.ot_hub.proofs.Stepping.{refused-same, down-done, down-refused}
use Rattle.ot_hub.proofs.Acting.{done-not_stuck, no_site-not_stuck, refusal-stuck, inside_of, client_read, items_set}
use Rattle.ot_hub.proofs.Acting.{items_same}
use Rattle.ot_hub.proofs.Together.{led_to, not_stuck, AreCountedEdits-same, AreInStep-down}
use Rattle.ot_hub.proofs.Ways.{LeadsTo}
use Rattle.ot_hub.proofs.hub.Hub.down.Goals.{After-documents_grow_by_one_cell_at_most, In-Some, In-Ok, In-Err}
use Rattle.ot_hub.proofs.hub.Hub.down.Goals as goal

-- the step of one leads on, so that of all does
leads_at : (all : List Client) (i : ℕ) (step : Step Client) → {P : Client → Type 0} → LeadsTo P step
    → LeadsTo (λ (clients : List Client). Unit {0}) (step_map (slice_set all i) step)
leads_at all i step leads =
    record { to = slice_set all i leads.to; is = ap (step_map (slice_set all i)) leads.is; holds = tt }

-- the client of the call
there : (c : In-Some) → IsClient (length c.args.self.now.clients.items) c.args.client
there c = c.if-not-has_client.ensures.0 refl

inside : (c : In-Some) → c.args.client - 1 < length c.args.self.now.clients.items
inside c = inside_of c.args.self.now.clients.items c.args.client (there c)

-- the entry that is next for it
next : (c : In-Some) → slice_get c.args.self.now.server.log
    (client_at c.args.self.now.clients.items (c.args.client - 1)).received ≡ Some c.in-Some.entry
next c = rw (client_read c.args.self.now.clients.items c.args.client c.index.result.now (there c) c.index.ensures)
    (sym c.in-Some.ensures)

has_near : (c : After-documents_grow_by_one_cell_at_most) → KeepsNear (function_of c.args.self.now.rules)
has_near c =
    keeps_near (function_of c.args.self.now.rules) c.functions_keep_forms.ensures c.transform_stays_near.ensures
    c.enabled_operations_are_near.ensures.wider c.rules_are_valid.ensures

-- the step of the list of clients, by that of one of them
abbrev step_of : Function → List Client → ℕ → Entry → Step (List Client)
step_of f all place entry = step_map (slice_set all place) (client_step f (place + 1) entry (client_at all place))

-- it is done
stepped :
    (c : In-Ok)
    → step_of (function_of c.args.self.now.rules) c.args.self.now.clients.items (c.args.client - 1) c.in-Some.entry
    ≡ To c.take_at.new.clients
stepped c = rw (← c.deref_mut.ensures.value) c.in-Ok.ensures

-- it is refused
refused :
    (c : In-Err)
    → HasStepped {X = List Client} {R = Unit {0}} c.args.self.now.clients.items c.take_at.new.clients
    (step_of (function_of c.args.self.now.rules) c.args.self.now.clients.items (c.args.client - 1) c.in-Some.entry)
    (Err c.in-Err.refusal)
refused c =
    subst (λ (clients : List Client). HasStepped {X = List Client} {R = Unit {0}} clients c.take_at.new.clients
    (step_of (function_of c.args.self.now.rules) clients (c.args.client - 1) c.in-Some.entry) (Err c.in-Err.refusal))
    c.deref_mut.ensures.value c.in-Err.ensures

-- there is no such client
pub returns-then-not-has_client-clause-moved : goal.returns-then-not-has_client-clause-moved
returns-then-not-has_client-clause-moved c =
    (λ there. let wrong : false ≡ true = c.if-not-has_client.ensures.1 there in cc, refl)

pub returns-then-not-has_client-clause-never_stuck : goal.returns-then-not-has_client-clause-never_stuck
returns-then-not-has_client-clause-never_stuck c tp1 chars = no_site-not_stuck

-- the client has received the whole log
pub returns-in_default-clause-moved : goal.returns-in_default-clause-moved
returns-in_default-clause-moved c =
    let s = c.args.self.now in
    let all : List Client = s.clients.items in
    let one : Client = client_at all (c.args.client - 1) in
    let there : IsClient (length all) c.args.client = c.if-not-has_client.ensures.0 refl in
    let client_is : one ≡ c.index.result.now = client_read all c.args.client c.index.result.now there c.index.ensures in
    let none : slice_get s.server.log one.received ≡ None = rw client_is (sym c.in_default.ensures) in
    (there, ap (down_with (hub_view_of s) c.args.client) none, refl)

pub returns-in_default-clause-never_stuck : goal.returns-in_default-clause-never_stuck
returns-in_default-clause-never_stuck c tp1 chars = done-not_stuck _

-- the client can take the next entry of the log
pub take_at-requires-clause-client : goal.take_at-requires-clause-client
take_at-requires-clause-client c =
    let at = goal.at.take_at-requires-clause-client c in
    let m : In-Some = at.In-Some in
    let s = c.args.self.now in
    let f : Function = function_of s.rules in
    let all : List Client = s.clients.items in
    let place : ℕ = c.args.client - 1 in
    let one : Client = client_at all place in
    let entry : Entry = c.in-Some.entry in
    let has : KeepsNear f = has_near at.After-documents_grow_by_one_cell_at_most in
    rw c.deref_mut.ensures.value
    (CanTakeEntry-kept f has c.documents_grow_by_one_cell_at_most.ensures f.head.mode (length s.server.log) one
    (one-kept f s.made s.server all s.kept place (inside m)) s.kept.server.few
    (slice_get_within s.server.log one.received entry (next m)) entry.op
    (All-at (λ e. IsUsable f (reach (length s.server.log)) e.op) s.server.log one.received entry
    s.kept.server.log (next m)))

-- the hub stays kept, counted and in step where the client took the next entry
pub invariant_of-self-in-Ok : goal.invariant_of-self-in-Ok
invariant_of-self-in-Ok c =
    let at = goal.at.invariant_of-self-in-Ok c in
    let m : In-Some = at.In-Some in
    let s = c.args.self.now in
    let f : Function = function_of s.rules in
    let all : List Client = s.clients.items in
    let place : ℕ = c.args.client - 1 in
    let one : Client = client_at all place in
    let entry : Entry = c.in-Some.entry in
    let has : KeepsNear f = has_near at.After-documents_grow_by_one_cell_at_most in
    let n : ℕ = length s.server.log in
    let new : List Client = c.take_at.new.clients in
    let to = stepped_to all place (client_step f (place + 1) entry one) new (stepped at.In-Ok) in
    let same : IsClientStepped f n one to.client =
    IsClientKept-stepped f has c.documents_grow_by_one_cell_at_most.ensures n (place + 1) one to.client
    (one-kept f s.made s.server all s.kept place (inside m))
    s.kept.server.few (slice_get_within s.server.log one.received entry (next m)) entry
    (All-at (λ e. IsUsable f (reach n) e.op) s.server.log one.received entry s.kept.server.log (next m)) to.is in
    let items : (with_items s.clients new).items ≡ slice_set all place to.client =
    items_set s.clients place to.client new to.new_is in
    let number : place + 1 ≡ c.args.client = omega (arith, (there m).low) in
    record {
      small = s.small;
      kept = rw items
          (IsHubKept-down f s.made s.server all s.kept place (inside m) to.client same.kept same.edits same.messages);
      followed = s.followed;
      counted = rw items
          (AreCountedEdits-same s.server.log all s.counted c.args.client (there m) to.client same.edits same.messages);
      in_step = λ tp1 chars. rw items
          (∥∥₁_map {B = AreInStep f s.first s.server (slice_set all place to.client)} (s.in_step tp1 chars) (λ k.
          led_to (λ (client : Client). AreInStep f s.first s.server (slice_set all place client))
          (client_step f c.args.client entry one) to.client
          (AreInStep-down f (c.functions_keep_forms.ensures f) (c.tp1_holds_of_forms.ensures f tp1) chars
          (c.transform_keeps_all_but_the_position.ensures f)
          s.first s.server all k c.args.client (there m) entry (next m))
          (subst (λ (n : ℕ). client_step f n entry one ≡ To to.client) number to.is)));
    }

pub returns-in-Ok-clause-never_stuck : goal.returns-in-Ok-clause-never_stuck
returns-in-Ok-clause-never_stuck c tp1 chars = done-not_stuck _

-- the client's step is done, and so is that of the hub
pub returns-in-Ok-clause-moved : goal.returns-in-Ok-clause-moved
returns-in-Ok-clause-moved c =
    let at = goal.at.returns-in-Ok-clause-moved c in
    let m : In-Some = at.In-Some in
    let s = c.args.self.now in
    let all : List Client = s.clients.items in
    let place : ℕ = c.args.client - 1 in
    let new : List Client = c.take_at.new.clients in
    let to = stepped_to all place (client_step (function_of s.rules) (place + 1) c.in-Some.entry (client_at all place))
    new (stepped at.In-Ok) in
    let items : (with_items s.clients new).items ≡ new =
    items_set s.clients place to.client new to.new_is ∙ sym to.new_is in (
      there m,
      rw items (down-done (hub_view_of s) c.args.client (there m) c.in-Some.entry (next m) new (stepped at.In-Ok)),
    )

pub invariant_of-self-in-Err : goal.invariant_of-self-in-Err
invariant_of-self-in-Err c =
    let s = c.args.self.now in
    let new : List Client = c.take_at.new.clients in
    let same : new ≡ s.clients.items =
    refused-same c.deref_mut.result.now new (step_map (slice_set c.deref_mut.result.now (c.args.client - 1))
    (client_step (function_of s.rules) (c.args.client - 1 + 1) c.in-Some.entry (client_at c.deref_mut.result.now
    (c.args.client - 1)))) c.in-Err.refusal c.in-Err.ensures ∙ c.deref_mut.ensures.value in
    let items : (with_items s.clients new).items ≡ s.clients.items = items_same s.clients new same in
    record {
      small = s.small;
      kept = rw items s.kept;
      followed = s.followed;
      counted = rw items s.counted;
      in_step = rw items s.in_step;
    }

-- the client's step was refused, and so was that of the hub
pub returns-in-Err-clause-moved : goal.returns-in-Err-clause-moved
returns-in-Err-clause-moved c =
    let at = goal.at.returns-in-Err-clause-moved c in
    let m : In-Some = at.In-Some in
    let s = c.args.self.now in
    let f : Function = function_of s.rules in
    let all : List Client = s.clients.items in
    let place : ℕ = c.args.client - 1 in
    let one : Client = client_at all place in
    let entry : Entry = c.in-Some.entry in
    let new : List Client = c.take_at.new.clients in
    let not_done = refused at.In-Err in
    let same : new ≡ all = refused-same all new (step_map (slice_set all place) (client_step f (place + 1) entry one))
    c.in-Err.refusal not_done in
    let items : (with_items s.clients new).items ≡ new = items_same s.clients new same ∙ sym same in
    let hub : HubData = hub_view_of s in
    subst (λ (clients : List Client). HasMoved hub (record hub { clients = clients; is_open = false }) c.args.client
    (down_step hub c.args.client) (Err c.in-Err.refusal))
    (sym items) (down-refused hub c.args.client (there m) entry (next m) new c.in-Err.refusal not_done)

-- a client in step is not stuck
pub returns-in-Err-clause-never_stuck : goal.returns-in-Err-clause-never_stuck
returns-in-Err-clause-never_stuck c tp1 chars is =
    let at = goal.at.returns-in-Err-clause-never_stuck c in
    let m : In-Some = at.In-Some in
    let s = c.args.self.now in
    let f : Function = function_of s.rules in
    let all : List Client = s.clients.items in
    let place : ℕ = c.args.client - 1 in
    let one : Client = client_at all place in
    let entry : Entry = c.in-Some.entry in
    let new : List Client = c.take_at.new.clients in
    let stuck : c.in-Err.refusal ≡ moves.Stuck = refusal-stuck c.in-Err.refusal is in
    let number : c.args.client ≡ place + 1 = omega (arith, (there m).low) in
    ∥∥₁_elim (s.in_step tp1 chars) (hlevel) (λ k.
    not_stuck (λ (clients : List Client). Unit {0}) all new (step_map (slice_set all place)
    (client_step f (place + 1) entry one)) c.in-Err.refusal (leads_at all place (client_step f (place + 1) entry one)
    (subst (λ (n : ℕ). LeadsTo (λ (client : Client). AreInStep f s.first s.server (slice_set all place client))
    (client_step f n entry one)) number
    (AreInStep-down f (c.functions_keep_forms.ensures f) (c.tp1_holds_of_forms.ensures f tp1) chars
    (c.transform_keeps_all_but_the_position.ensures f)
    s.first s.server all k c.args.client (there m) entry (next m)))) (refused at.In-Err) stuck)
