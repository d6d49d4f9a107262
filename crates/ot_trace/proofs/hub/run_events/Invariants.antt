use Rattle.std.proofs.Common.{◌≡◌, ℕ, List, drop, true}
use Rattle.fn_rules.specs.Rules.{function_of}
use Rattle.ot_hub.specs.Views.{hub_view_of}
use Rattle.ot_trace.specs.HubTexts.{TracesHub}
use Rattle.ot_trace.proofs.hub.run_events.Given as goal

-- the hub is open, and what is told of the other events from here on is what is told of all
abbrev pub invariant-loop-number : goal.invariant-loop-number
invariant-loop-number l = record {
  is_open : (hub_view_of l.hub).is_open ≡ true;
  function : (hub_view_of l.hub).function ≡ function_of l.rules;
  rest : (after : List ℕ) → TracesHub (hub_view_of l.hub) l.number (drop l.number l.events) l.out.items after
      → TracesHub (hub_view_of l.fn.hub) 0 l.fn.events l.fn.out.items after;
}
