use Rattle.std.proofs.Common.{◌≡◌, length, drop, true}
use Rattle.ot_hub.specs.Views.{hub_view_of}
use Rattle.ot_replies.specs.declared.reply.Reply.{Reply}
use Rattle.ot_commands.specs.Hub.{Runs}
use Rattle.ot_commands.proofs.hub.run_events.Given as goal

-- the hub is open, and what the other events come to from here on is what all come to
abbrev pub invariant-loop-number : goal.invariant-loop-number
invariant-loop-number l = record {
  is_open : (hub_view_of l.hub).is_open ≡ true;
  rest : (r : Reply) → Runs (hub_view_of l.hub) l.number (drop l.number l.events) r
      → Runs (hub_view_of l.fn.hub) 0 l.fn.events r;
  clients : length (hub_view_of l.hub).clients ≡ length (hub_view_of l.fn.hub).clients;
  function : (hub_view_of l.hub).function ≡ (hub_view_of l.fn.hub).function;
}
