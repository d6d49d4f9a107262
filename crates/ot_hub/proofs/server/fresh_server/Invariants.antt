use Rattle.std.proofs.Common.{◌≡◌, ◌≤◌, ◌-◌, [], length}
use Rattle.std.specs.Prelude.{replicate}
use Rattle.ot_hub.proofs.server.fresh_server.Given as goal

abbrev pub invariant-loop-ahead : goal.invariant-loop-ahead
invariant-loop-ahead l = record {
  so_far : l.ahead ≡ replicate (length l.ahead) [];
  few : length l.ahead ≤ l.clients;
}

abbrev pub decreases-loop-ahead : goal.decreases-loop-ahead
decreases-loop-ahead l = l.clients - length l.ahead
