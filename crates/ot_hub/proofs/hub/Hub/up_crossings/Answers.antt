use Rattle.std.proofs.Common.{◌-◌, ◌<◌, ℕ, List, length, sym, arith}
use Rattle.fn_rules.specs.Functions.{Function}
use Rattle.fn_rules.specs.Rules.{function_of}
use Rattle.ot_hub.specs.declared.client.Client.{Client}
use Rattle.ot_hub.specs.Clients.{client_at}
use Rattle.ot_hub.specs.Usable.{IsUsable, most_hub_cells}
use Rattle.ot_hub.proofs.Acting.{inside_of}
use Rattle.ot_hub.proofs.Keeping.{one-kept}
use Rattle.ot_hub.proofs.Kept.{All-at, CanBeCarried-ahead}
use Rattle.ot_hub.proofs.hub.Hub.up_crossings.Goals as goal

pub index-requires : goal.index-requires
index-requires c = omega (arith, c.args.self.now.kept.sides, c.requires.low, c.requires.high)

-- the message can be carried over what the server keeps for its client
pub crossings-requires : goal.crossings-requires
crossings-requires c =
    let s = c.args.self.now in
    let f : Function = function_of s.rules in
    let all : List Client = s.clients.items in
    let place : ℕ = c.args.client - 1 in
    let inside : place < length all = inside_of all c.args.client c.requires in
    let usable : IsUsable f most_hub_cells c.in-Some.message.op =
    All-at (λ b. IsUsable f most_hub_cells b.op) (client_at all place).messages 0 c.in-Some.message
    (one-kept f s.made s.server all s.kept place inside).messages (sym c.in-Some.ensures) in
    rw c.as_slice-ahead.ensures (CanBeCarried-ahead c.enabled_operations_are_near.ensures.wider f s.server s.kept.server
    place c.index.result.now c.index.ensures c.in-Some.message.op usable)
