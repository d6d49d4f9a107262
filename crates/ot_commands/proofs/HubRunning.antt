-- What stands after an event of a hub that is done.
use Rattle.std.proofs.Common.{◌≡◌, ◌-◌, ℕ, List, [], ◌∷◌, length, Option, Some, None, Ok, sym, refl, subst}
use Rattle.std.specs.Prelude.{slice_set}
use Rattle.std.proofs.lemmas.List.{length-set}
use Rattle.case_json.specs.declared.hub.HubEvent.{HubEvent}
use Rattle.case_json.specs.declared.hub.HubEvent.TheVariants as events
use Rattle.ot_hub.specs.declared.answer.Moved.{Moved}
use Rattle.ot_hub.specs.declared.answer.Moved.TheVariants as moved
use Rattle.ot_hub.specs.declared.client.Client.{Client}
use Rattle.ot_hub.specs.declared.placed.Entry.{Entry}
use Rattle.ot_hub.specs.declared.placed.PlacedOp.{PlacedOp}
use Rattle.ot_hub.specs.declared.server.Server.{Server}
use Rattle.ot_hub.specs.Clients.{sent}
use Rattle.ot_hub.specs.Steps.{Step, Nothing, Stuck, To, step_map, server_step, client_step}
use Rattle.ot_hub.specs.Views.{HubData, HasMoved, client_of, up_step, up_with, down_step, down_with}
use Rattle.ot_commands.specs.Hub.{IsDone}

-- a hub is open as another one was, and has its function and its number of clients
pub record Keeps (old new : HubData) : Type 0 where
  pub is_open : new.is_open ≡ old.is_open
  pub function : new.function ≡ old.function
  pub clients : length new.clients ≡ length old.clients

-- so is the hub to which a step leads
abbrev StepKeeps : HubData → Step HubData → Type 0
StepKeeps hub Nothing = Unit {0}
StepKeeps hub Stuck = Unit {0}
StepKeeps hub (To new) = Keeps hub new

same_keeps : (hub : HubData) → Keeps hub hub
same_keeps hub = record { is_open = refl; function = refl; clients = refl }

whole_keeps :
    {X : Type 0} (hub : HubData) (whole : X → HubData) → ((x : X) → Keeps hub (whole x)) → (step : Step X)
    → StepKeeps hub (step_map whole step)
whole_keeps hub whole keeps Nothing = tt
whole_keeps hub whole keeps Stuck = tt
whole_keeps hub whole keeps (To x) = keeps x

up_keeps : (hub : HubData) (c : ℕ) (messages : List PlacedOp) → StepKeeps hub (up_with hub c messages)
up_keeps hub c [] = tt
up_keeps hub c (message ∷ others) =
    whole_keeps hub
    (λ (s : Server). record hub { server = s; clients = slice_set hub.clients (c - 1) (sent (client_of hub c)) })
    (λ s. record { is_open = refl; function = refl; clients = length-set _ _ _ })
    (server_step hub.function c message hub.server)

down_keeps : (hub : HubData) (c : ℕ) (entry : Option Entry) → StepKeeps hub (down_with hub c entry)
down_keeps hub c None = tt
down_keeps hub c (Some entry) =
    whole_keeps hub (λ (x : Client). record hub { clients = slice_set hub.clients (c - 1) x })
    (λ x. record { is_open = refl; function = refl; clients = length-set _ _ _ })
    (client_step hub.function c entry (client_of hub c))

moved_keeps :
    (hub new : HubData) (c : ℕ) (step : Step HubData) (m : Moved) → StepKeeps hub step
    → HasMoved hub new c step (Ok m) → Keeps hub new
moved_keeps hub new c step moved.Done keeps done = subst (λ (s : Step HubData). StepKeeps hub s) done.1 keeps
moved_keeps hub new c step moved.Nothing keeps done = subst (λ (h : HubData). Keeps hub h) (sym done.2) (same_keeps hub)

pub done_keeps : (hub new : HubData) (event : HubEvent) → IsDone hub event new → Keeps hub new
done_keeps hub new (events.Edit c o) done =
    subst (λ (h : HubData). Keeps hub h) (sym done.2)
    (record { is_open = refl; function = refl; clients = length-set _ _ _ })
done_keeps hub new (events.Up c) (m, done) = moved_keeps hub new c (up_step hub c) m (up_keeps hub c _) done
done_keeps hub new (events.Down c) (m, done) = moved_keeps hub new c (down_step hub c) m (down_keeps hub c _) done
