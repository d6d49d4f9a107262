-- What the steps come to, by what was carried.
use Rattle.std.proofs.Common.{◌≡◌, ◌≢◌, ℕ, true, false, List, [], ◌∷◌, length, Option, Some, None, refl, ap, ◌∙◌, ◌-◌}
use Rattle.std.proofs.Common.{◌+◌, sym, subst, get_or, arith, eqb-true, eq-eqb}
use Rattle.std.specs.Prelude.{nat_eq, ◌<◌, slice_get, slice_set, Result, Ok, Err, IsErrAnd, is_some}
use Rattle.std.proofs.lemmas.List.{set-get_or}
use Rattle.std.proofs.lemmas.Bool.{false_from_ne_true}
use Rattle.ot_model.specs.declared.op.Op.{Op}
use Rattle.ot_model.specs.Effect.{is_enabled}
use Rattle.fn_rules.specs.Functions.{Function}
use Rattle.ot_hub.specs.declared.answer.Move.{Move}
use Rattle.ot_hub.specs.declared.answer.Move.TheVariants as moves
use Rattle.ot_hub.specs.declared.client.Client.{Client}
use Rattle.ot_hub.specs.declared.placed.PlacedOp.{PlacedOp}
use Rattle.ot_hub.specs.declared.placed.Entry.{Entry}
use Rattle.ot_hub.specs.Carry.{Carried, carry, from_place, carried_op, carried_list}
use Rattle.ot_hub.specs.declared.server.Server.{Server}
use Rattle.ot_hub.specs.Steps.{Step, Nothing, Stuck, To, step_map, IsTo, HasStepped, goes_on, client_after, confirmed}
use Rattle.ot_hub.specs.Steps.{client_step, ahead_of, server_after, server_step}
use Rattle.ot_hub.specs.Views.{HubData, closed_hub, IsClient, HasMoved, client_of, up_with, down_with, down_step}
use Rattle.ot_hub.proofs.Carrying.{from_true}

-- what was carried, by its two parts
pub carried_parts : (carried : Option Carried) (o : Op) (list : List PlacedOp) → Some o ≡ carried_op carried
    → carried_list carried ≡ Some list
    → carried ≡ Some (record { op = o; list = list })
carried_parts None o list is_op is_list = cc
carried_parts (Some carried) o list is_op is_list =
    let same_op : o ≡ carried.op = cc in
    let same_list : carried.list ≡ list = cc in
    rw (same_op, ← same_list) refl

-- where it is enabled, the step leads on
pub goes_on-done : {X : Type 0} (carried : Option Carried) (o : Op) (list : List PlacedOp)
    (cells : ℕ) (go : Carried → X)
    → Some o ≡ carried_op carried → carried_list carried ≡ Some list → is_enabled o cells ≡ true
    → goes_on carried cells go ≡ To (go (record { op = o; list = list }))
goes_on-done carried o list cells go is_op is_list enabled =
    rw (carried_parts carried o list is_op is_list, enabled) refl

-- where nothing was carried, it is stuck
pub goes_on-none : {X : Type 0} (carried : Option Carried) (cells : ℕ) (go : Carried → X) → None ≡ carried_op carried
    → goes_on carried cells go ≡ Stuck
goes_on-none None cells go none = refl
goes_on-none (Some carried) cells go none = cc

-- and where what it became is not enabled
pub goes_on-refused : {X : Type 0} (carried : Option Carried) (o : Op) (cells : ℕ) (go : Carried → X)
    → Some o ≡ carried_op carried
    → is_enabled o cells ≡ false → goes_on carried cells go ≡ Stuck
goes_on-refused None o cells go is refused = cc
goes_on-refused (Some carried) o cells go is refused = let same : o ≡ carried.op = cc in rw (← same, refused) refl

-- otherwise it leads on
pub goes_on-leads : {X : Type 0} (carried : Option Carried) (o : Op) (cells : ℕ) (go : Carried → X)
    → Some o ≡ carried_op carried
    → is_enabled o cells ≡ true → IsTo (goes_on carried cells go)
goes_on-leads None o cells go is enabled = cc
goes_on-leads (Some carried) o cells go is enabled = let same : o ≡ carried.op = cc in rw (← same, enabled) tt

-- the server's step, by what its list for the client carries
module _ (f : Function) (c : ℕ) (message : PlacedOp) (server : Server) (list : List PlacedOp)
    (there : ahead_of server c ≡ list) where
  abbrev message_carried : Option Carried
  message_carried = carry f message.op (from_place message.place list)

  abbrev after : Carried → Server
  after carried = server_after f.head.mode c carried server

  pub server_step-none : None ≡ carried_op message_carried → server_step f c message server ≡ Stuck
  server_step-none none = rw there (goes_on-none message_carried (length server.doc) after none)

  pub server_step-refused :
      (o : Op) → Some o ≡ carried_op message_carried → is_enabled o (length server.doc) ≡ false
      → server_step f c message server ≡ Stuck
  server_step-refused o is refused = rw there (goes_on-refused message_carried o (length server.doc) after is refused)

  pub server_step-leads :
      (o : Op) → Some o ≡ carried_op message_carried → is_enabled o (length server.doc) ≡ true
      → IsTo (server_step f c message server)
  server_step-leads o is enabled = rw there (goes_on-leads message_carried o (length server.doc) after is enabled)

  pub server_step-done :
      (o : Op) (own : List PlacedOp) → Some o ≡ carried_op message_carried → carried_list message_carried ≡ Some own
      → is_enabled o (length server.doc) ≡ true
      → server_step f c message server ≡ To (after (record { op = o; list = own }))
  server_step-done o own is carries enabled =
      rw there (goes_on-done message_carried o own (length server.doc) after is carries enabled)

-- what was carried over a list, where the operation was
pub carried_some : (carried : Option Carried) (o : Op) → Some o ≡ carried_op carried → is_some carried ≡ true
carried_some None o is = cc
carried_some (Some carried) o is = refl

-- memory was wanting where the step leads on
pub HasStepped-lacked : {X R : Type 0} (old new : X) (step : Step X) (result : Result R Move)
    → IsErrAnd result (λ e. e ≡ moves.NoMemory)
    → IsTo step → new ≡ old → HasStepped old new step result
HasStepped-lacked old new step (Ok done) lacks leads same = absurd lacks
HasStepped-lacked old new step (Err e) lacks leads same = rw lacks (leads, same)

-- all of a list are from place 0 on
from_place-all : (list : List PlacedOp) → from_place 0 list ≡ list
from_place-all [] = refl
from_place-all (b ∷ bs) = rw (from_true 0 b.place (omega arith)) (ap (λ rest. b ∷ rest) (from_place-all bs))

module _ (f : Function) (number : ℕ) (entry : Entry) (client : Client) where
  -- an entry of its own
  pub client_step-own : entry.client ≡ number → client_step f number entry client ≡ To (confirmed client)
  client_step-own same = rw (eq-eqb entry.client number same) refl

  -- an entry of another client
  pub client_step-other : entry.client ≢ number → client_step f number entry client
      ≡ goes_on (carry f entry.op (from_place 0 client.pending)) (length client.doc)
      (λ carried. client_after f.head.mode carried client)
  client_step-other differ =
      rw (
        false_from_ne_true (nat_eq entry.client number) (λ is. differ (eqb-true entry.client number is)),
        from_place-all client.pending,
      ) refl

IsTo-map : {X Y : Type 0} (whole : X → Y) (step : Step X) → IsTo step → IsTo (step_map whole step)
IsTo-map whole Nothing leads = absurd leads
IsTo-map whole Stuck leads = absurd leads
IsTo-map whole (To next) leads = tt

-- the step of one of a list is a step of the list
pub HasStepped-at : {X R : Type 0} (xs : List X) (i : ℕ) (d new : X) (step : Step X) (result : Result R Move)
    → HasStepped (get_or xs i d) new step result
    → HasStepped xs (slice_set xs i new) (step_map (slice_set xs i) step) result
HasStepped-at xs i d new step (Ok done) stepped = ap (step_map (slice_set xs i)) stepped
HasStepped-at xs i d new step (Err moves.NoSite) stepped = absurd stepped
HasStepped-at xs i d new step (Err moves.Stuck) stepped =
    (ap (step_map (slice_set xs i)) stepped.0, ap (slice_set xs i) stepped.1 ∙ set-get_or xs i d)
HasStepped-at xs i d new step (Err moves.NoMemory) stepped =
    (IsTo-map (slice_set xs i) step stepped.0, ap (slice_set xs i) stepped.1 ∙ set-get_or xs i d)

-- the oldest message
pub up_with-first : (hub : HubData) (c : ℕ) (list : List PlacedOp) (message : PlacedOp)
    → Some message ≡ slice_get list 0
    → up_with hub c list ≡ up_with hub c (message ∷ [])
up_with-first hub c [] message is = cc
up_with-first hub c (first ∷ others) message is = let same : message ≡ first = cc in rw same refl

pub up_with-none : (hub : HubData) (c : ℕ) (list : List PlacedOp) → slice_get list 0 ≡ None
    → up_with hub c list ≡ Nothing
up_with-none hub c [] is = refl
up_with-none hub c (first ∷ others) is = cc

pub some_first : (list : List PlacedOp) (message : PlacedOp) → Some message ≡ slice_get list 0 → 0 < length list
some_first [] message is = cc
some_first (first ∷ others) message is = omega arith

-- a part that refused a step leaves the whole closed, and as it was
pub HasMoved-refused : {X : Type 0} (hub new_hub : HubData) (c : ℕ) → IsClient (length hub.clients) c
    → (old new : X) (step : Step X) (whole : X → HubData)
    (r : Move) → HasStepped {X = X} {R = Unit {0}} old new step (Err r) → (new ≡ old → new_hub ≡ closed_hub hub)
    → HasMoved hub new_hub c (step_map whole step) (Err r)
HasMoved-refused hub new_hub c there old new step whole moves.NoSite stepped same = absurd stepped
HasMoved-refused hub new_hub c there old new step whole moves.Stuck stepped same =
    (there, ap (step_map whole) stepped.0, same stepped.1)
HasMoved-refused hub new_hub c there old new step whole moves.NoMemory stepped same =
    (there, IsTo-map whole step stepped.0, same stepped.1)

-- and is not changed
pub refused-same : {X : Type 0} (old new : X) (step : Step X) (r : Move)
    → HasStepped {X = X} {R = Unit {0}} old new step (Err r) → new ≡ old
refused-same old new step moves.NoSite stepped = absurd stepped
refused-same old new step moves.Stuck stepped = stepped.1
refused-same old new step moves.NoMemory stepped = stepped.1

step_map-map : {X Y Z : Type 0} (outer : Y → Z) (inner : X → Y) (step : Step X)
    → step_map outer (step_map inner step) ≡ step_map (λ x. outer (inner x)) step
step_map-map outer inner Nothing = refl
step_map-map outer inner Stuck = refl
step_map-map outer inner (To next) = refl

-- the step of a client that takes the next entry, by that of the list of clients
module _ (hub : HubData) (c : ℕ) (there : IsClient (length hub.clients) c) (entry : Entry)
    (next : slice_get hub.server.log (client_of hub c).received ≡ Some entry) where
  abbrev stepped : Step (List Client)
  stepped = step_map (slice_set hub.clients (c - 1)) (client_step hub.function (c - 1 + 1) entry (client_of hub c))

  abbrev with_clients : List Client → HubData
  with_clients clients = record hub { clients = clients }

  down_is : down_step hub c ≡ step_map with_clients stepped
  down_is =
      ap (down_with hub c) next
      ∙ ap (λ number. step_map (λ client. with_clients (slice_set hub.clients (c - 1) client))
      (client_step hub.function number entry (client_of hub c))) (omega (arith, there.low))
      ∙ sym (step_map-map with_clients (slice_set hub.clients (c - 1))
      (client_step hub.function (c - 1 + 1) entry (client_of hub c)))

  pub down-done : (new : List Client) → stepped ≡ To new → down_step hub c ≡ To (with_clients new)
  down-done new is = down_is ∙ ap (step_map with_clients) is

  pub down-refused : (new : List Client) (r : Move)
      → HasStepped {X = List Client} {R = Unit {0}} hub.clients new stepped (Err r)
      → HasMoved hub (record hub { clients = new; is_open = false }) c (down_step hub c) (Err r)
  down-refused new r refused =
      subst (λ (step : Step HubData). HasMoved hub (record hub { clients = new; is_open = false }) c step (Err r)) (sym
      down_is) (HasMoved-refused hub (record hub { clients = new; is_open = false }) c there hub.clients new stepped
      with_clients r refused (ap (λ (clients : List Client). record hub { clients = clients; is_open = false })))
