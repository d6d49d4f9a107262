use Rattle.std.proofs.Common.{◌≡◌, ℕ, List, drop, true}
use Rattle.ot_session.specs.Views.{view_of}
use Rattle.ot_trace.specs.SessionTexts.{TracesSession}
use Rattle.ot_trace.proofs.session.run_events.Given as goal

-- the session is open, and what is told of the other events from here on is what is told of all
abbrev pub invariant-loop-number : goal.invariant-loop-number
invariant-loop-number l = record {
  is_open : (view_of l.session).is_open ≡ true;
  rest : (after : List ℕ) → TracesSession (view_of l.session) l.number (drop l.number l.events) l.out.items after
      → TracesSession (view_of l.fn.session) 0 l.fn.events l.fn.out.items after;
}
