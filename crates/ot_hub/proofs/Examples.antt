-- Hubs, computed on small cases.
use Rattle.std.proofs.Common.{inr, arith}
use Rattle.std.specs.Prelude.{◌≡◌, ℕ, pos, List, [], ◌∷◌, map, drop, refl}
use Rattle.ot_model.specs.declared.cell.Cell.{Cell}
use Rattle.ot_model.specs.declared.op.Mode.TheVariants.{Plain}
use Rattle.ot_model.specs.declared.op.Op.{Op}
use Rattle.ot_model.specs.declared.op.Op.TheVariants.{Ins, Del}
use Rattle.ot_model.specs.Cells.{live_cell}
use Rattle.fn_rules.specs.Shipped.{sites}
use Rattle.ot_hub.specs.declared.placed.PlacedOp.{PlacedOp}
use Rattle.ot_hub.specs.Chains.{document_after_all}
use Rattle.ot_hub.specs.Meeting.{Ups, Downs}
use Rattle.ot_hub.specs.Steps.{Step, Nothing, Stuck, To, ahead_of}
use Rattle.ot_hub.specs.Views.{HubData, begun_hub, client_of, after_edit, up_step, down_step}

abbrev a : Cell
a = live_cell 97

abbrev c : Cell
c = live_cell 99

abbrev y : Cell
y = live_cell 121

-- what happens in a hub
data Event : Type 0 where
  Edit : ℕ → Op → Event
  Up : ℕ → Event
  Down : ℕ → Event

-- the hub after a step that leads on
abbrev led : HubData → Step HubData → HubData
led hub Nothing = hub
led hub Stuck = hub
led hub (To next) = next

abbrev after : HubData → List Event → HubData
after hub [] = hub
after hub (Edit client o ∷ events) = after (after_edit hub client o) events
after hub (Up client ∷ events) = after (led hub (up_step hub client)) events
after hub (Down client ∷ events) = after (led hub (down_step hub client)) events

-- three operations on one document, which are sent in turn
abbrev sent_in_turn : List Event
sent_in_turn =
    Edit 1 (Ins (pos 1) 97 1) ∷ Edit 2 (Del (pos 0) 2) ∷ Edit 3 (Ins (pos 0) 99 3) ∷ Up 1 ∷ Up 2 ∷ Up 3 ∷ []

abbrev all_received : List Event
all_received =
    Down 1 ∷ Down 1 ∷ Down 1 ∷ Down 2 ∷ Down 2 ∷ Down 2 ∷ Down 3 ∷ Down 3 ∷ Down 3 ∷ []

server_alone : (after (begun_hub sites (y ∷ []) 3) sent_in_turn).server.doc ≡ c ∷ a ∷ []
server_alone = refl

-- with the first property alone, each client ends with the server's document
clients_too : map (λ client. client.doc) (after (after (begun_hub sites (y ∷ []) 3) sent_in_turn) all_received).clients
    ≡ (c ∷ a ∷ []) ∷ (c ∷ a ∷ []) ∷ (c ∷ a ∷ []) ∷ []
clients_too = refl

nothing_is_pending : map (λ client. client.pending)
    (after (after (begun_hub sites (y ∷ []) 3) sent_in_turn) all_received).clients ≡ [] ∷ [] ∷ [] ∷ []
nothing_is_pending = refl

nothing_to_take : down_step (after (begun_hub sites [] 2) (Edit 1 (Ins (pos 0) 97 1) ∷ [])) 2 ≡ Nothing
nothing_to_take = refl

nothing_to_send : up_step (begun_hub sites [] 2) 1 ≡ Nothing
nothing_to_send = refl

-- an own entry is received before and after another one
abbrev crossing : List Event
crossing = Edit 1 (Ins (pos 0) 97 1) ∷ Edit 2 (Ins (pos 0) 99 2) ∷ Up 1 ∷ Up 2 ∷ Down 1 ∷ Down 1 ∷ Down 2 ∷ Down 2 ∷ []

own_entries_are_not_executed_again : map (λ client. client.doc) (after (begun_hub sites [] 2) crossing).clients
    ≡ (a ∷ c ∷ []) ∷ (a ∷ c ∷ []) ∷ []
own_entries_are_not_executed_again = refl

-- the server took two of the three messages, and no client received anything
abbrev waiting : HubData
waiting = after (begun_hub sites (y ∷ []) 3)
    (Edit 1 (Ins (pos 1) 97 1) ∷ Edit 2 (Del (pos 0) 2) ∷ Edit 3 (Ins (pos 0) 99 3) ∷ Up 1 ∷ Up 2 ∷ [])

-- what the third message becomes at the server, and what its client will take
abbrev third : PlacedOp
third = record { place = 0; op = Ins (pos 0) 99 3 }

abbrev to_take : List PlacedOp
to_take = record { place = 0; op = Ins (pos 2) 97 1 } ∷ record { place = 1; op = Del (pos 1) 2 } ∷ []

up_way : Ups sites (client_of waiting 3).messages (ahead_of waiting.server 3) (third ∷ []) to_take
up_way = record { carried = record { op = third.op; list = to_take }; is = refl; form_is = refl; rest = refl }

-- the way down of client 3, whose pending operation both others cross
down_way : Downs sites 3 0 (client_of waiting 3).pending waiting.server.log (third ∷ []) to_take
down_way = inr (record {
  other = λ same. absurd (omega (arith, same));
  carried = record { op = Ins (pos 2) 97 1; list = third ∷ [] };
  later = drop 1 to_take;
  is = refl;
  taken_is = refl;
  rest = inr (record {
    other = λ same. absurd (omega (arith, same));
    carried = record { op = Del (pos 1) 2; list = third ∷ [] };
    later = [];
    is = refl;
    taken_is = refl;
    rest = (refl, refl);
  });
})

-- they meet in one document
one_document : document_after_all Plain to_take (client_of waiting 3).doc
    ≡ document_after_all Plain (third ∷ []) waiting.server.doc
one_document = refl
