use Rattle.std.proofs.Common.{◌≡◌, ◌≤◌, ◌-◌, [], length}
use Rattle.std.specs.Prelude.{replicate}
use Rattle.ot_hub.proofs.client.fresh_clients.Given as goal

abbrev pub invariant-loop-alloc : goal.invariant-loop-alloc
invariant-loop-alloc l = record {
  so_far : l.clients.items ≡ replicate (length l.clients.items)
      (record { edits = 0; received = 0; pending = []; messages = []; doc = l.doc });
  few : length l.clients.items ≤ l.count;
}

abbrev pub decreases-loop-alloc : goal.decreases-loop-alloc
decreases-loop-alloc l = l.count - length l.clients.items
