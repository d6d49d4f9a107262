-- The pairs of operations that cross where one is carried over others, as they are before that.
use Rattle.std.specs.Prelude.{ℕ, nat_eq, if◌then◌else◌, List, [], ◌∷◌, Option, Some, None, slice_get}
use Rattle.ot_model.specs.declared.op.Op.{Op}
use Rattle.fn_rules.specs.Functions.{Function}
use Rattle.ot_hub.specs.declared.carry.Crossed.{Crossed}
use Rattle.ot_hub.specs.declared.crossing.Crossing.{Crossing}
use Rattle.ot_hub.specs.declared.placed.Entry.{Entry}
use Rattle.ot_hub.specs.declared.placed.PlacedOp.{PlacedOp}
use Rattle.ot_hub.specs.Carry.{crossed, from_place}
use Rattle.ot_hub.specs.Steps.{ahead_of}
use Rattle.ot_hub.specs.Usable.{IsUsable, farthest_carried}
use Rattle.ot_hub.specs.Views.{HubData, client_of}

-- both operations can be transformed
pub record CanBothMove (f : Function) (c : Crossing) : Type 0 where
  pub own : IsUsable f (farthest_carried 0) c.own
  pub other : IsUsable f (farthest_carried 0) c.other

-- what follows on two that crossed
abbrev pub on_both : Option Crossed → (Crossed → List Crossing) → List Crossing
on_both None rest = []
on_both (Some both) rest = rest both

-- the pairs that cross where an operation is carried over a list, up to the first of which one has no result
abbrev pub crossings : Function → Op → List PlacedOp → List Crossing
crossings f o [] = []
crossings f o (b ∷ bs) =
    record { own = o; other = b.op } ∷ on_both (crossed f o b.op) (λ both. crossings f both.own bs)

-- those of a message, if there is one, over the entries that its client had not received when it made it
abbrev pub message_crossings : HubData → ℕ → Option PlacedOp → List Crossing
message_crossings hub c None = []
message_crossings hub c (Some message) =
    crossings hub.function message.op (from_place message.place (ahead_of hub.server c))

-- those of the oldest message of a client
abbrev pub up_crossings : HubData → ℕ → List Crossing
up_crossings hub c = message_crossings hub c (slice_get (client_of hub c).messages 0)

-- those of an entry of the log, if there is one and it is another client's, over what is pending
abbrev pub entry_crossings : HubData → ℕ → Option Entry → List Crossing
entry_crossings hub c None = []
entry_crossings hub c (Some entry) =
    if nat_eq entry.client c then [] else crossings hub.function entry.op (from_place 0 (client_of hub c).pending)

-- those of the next entry for a client
abbrev pub down_crossings : HubData → ℕ → List Crossing
down_crossings hub c = entry_crossings hub c (slice_get hub.server.log (client_of hub c).received)
