use Rattle.std.proofs.Common.{◌≡◌, length, drop, true}
use Rattle.ot_session.specs.Views.{view_of}
use Rattle.ot_replies.specs.declared.reply.Reply.{Reply}
use Rattle.ot_commands.specs.Replay.{Runs}
use Rattle.ot_commands.proofs.replay.run_events.Given as goal

-- the session is open, and what the other events come to from here on is what all come to
abbrev pub invariant-loop-number : goal.invariant-loop-number
invariant-loop-number l = record {
  is_open : (view_of l.session).is_open ≡ true;
  rest : (r : Reply) → Runs (view_of l.session) l.number (drop l.number l.events) r
      → Runs (view_of l.fn.session) 0 l.fn.events r;
  sites : length (view_of l.session).sites ≡ length (view_of l.fn.session).sites;
  function : (view_of l.session).function ≡ (view_of l.fn.session).function;
}
