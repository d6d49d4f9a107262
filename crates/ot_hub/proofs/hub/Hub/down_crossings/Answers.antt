use Rattle.std.proofs.Common.{◌≡◌, ◌+◌, ◌-◌, ◌<◌, ◌≤◌, ℕ, List, length, Some, sym, arith}
use Rattle.std.specs.Prelude.{slice_get}
use Rattle.std.proofs.lemmas.Option.{slice_get_within}
use Rattle.fn_rules.specs.Functions.{Function}
use Rattle.fn_rules.specs.Rules.{function_of}
use Rattle.ot_hub.specs.declared.client.Client.{Client}
use Rattle.ot_hub.specs.Clients.{client_at}
use Rattle.ot_hub.specs.Kept.{IsClientKept}
use Rattle.ot_hub.specs.Usable.{IsUsable, reach}
use Rattle.ot_hub.proofs.Acting.{inside_of}
use Rattle.ot_hub.proofs.Keeping.{one-kept}
use Rattle.ot_hub.proofs.Kept.{All-at, CanBeCarried-near}
use Rattle.ot_hub.proofs.Near.{IsUsable-wider}
use Rattle.ot_hub.proofs.hub.Hub.down_crossings.Goals as goal

-- the entry can be carried over what is pending
pub crossings-requires : goal.crossings-requires
crossings-requires c =
    let s = c.args.self.now in
    let f : Function = function_of s.rules in
    let n : ℕ = length s.server.log in
    let all : List Client = s.clients.items in
    let place : ℕ = c.args.client - 1 in
    let client : Client = client_at all place in
    let inside : place < length all = inside_of all c.args.client c.requires in
    let kept : IsClientKept f n client = one-kept f s.made s.server all s.kept place inside in
    let next : slice_get s.server.log client.received ≡ Some c.in-Some.entry = sym c.in-Some.ensures in
    let more : client.received < n = slice_get_within s.server.log client.received c.in-Some.entry next in
    let usable : IsUsable f (reach n) c.in-Some.entry.op =
    All-at (λ e. IsUsable f (reach n) e.op) s.server.log client.received c.in-Some.entry s.kept.server.log next in
    rw (c.as_slice-pending.ensures, c.at.ensures)
    (CanBeCarried-near c.enabled_operations_are_near.ensures.wider f (reach (n + client.received)) c.in-Some.entry.op
    client.pending (omega (arith, kept.short, kept.few)) (omega (arith, kept.short, kept.few, s.kept.server.few, more))
    (IsUsable-wider c.enabled_operations_are_near.ensures.wider f (reach n) (reach (n + client.received))
    c.in-Some.entry.op (omega arith) usable) kept.pending)
