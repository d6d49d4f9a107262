-- What both files get is the reply to the command, by what the other one holds.
use Rattle.std.proofs.Common.{IfOk, sym, subst}
use Rattle.ot_words.specs.Commands.{Trace}
use Rattle.ot_words.specs.declared.command.TraceKind.{TraceKind}
use Rattle.ot_words.specs.declared.command.TraceKind.TheVariants as traces
use Rattle.ot_commands.specs.Given.{IsReplyOfGiven}
use Rattle.ot_commands.specs.Replies.{IsReplyTo}
use Rattle.ot_commands.specs.Trace.{trace_facts}
use Rattle.ot_commands.proofs.Called.{nothing_more}
use Rattle.ot_commands.proofs.trace.trace.Goals as goal

pub returns-in-Case-clause-ok : goal.returns-in-Case-clause-ok
returns-in-Case-clause-ok g c = rw c.in-Case.is c.reply_to_both.ensures.ok

pub returns-in-Case-clause-given : goal.returns-in-Case-clause-given
returns-in-Case-clause-given g c =
    rw c.in-Case.is
    (nothing_more (g.H.Shelf.reads c.args.shelf.now) (g.H.Shelf.reads c.reply_to_both.new.shelf)
    (trace_facts traces.Case c.args.function.now c.args.file.now).opens _ c.reply_to_both.result
    c.reply_to_both.ensures.given)

pub returns-in-Session-clause-ok : goal.returns-in-Session-clause-ok
returns-in-Session-clause-ok g c = rw c.in-Session.is c.reply_to_both-in-Session.ensures.ok

pub returns-in-Session-clause-given : goal.returns-in-Session-clause-given
returns-in-Session-clause-given g c =
    rw c.in-Session.is
    (nothing_more (g.H.Shelf.reads c.args.shelf.now) (g.H.Shelf.reads c.reply_to_both-in-Session.new.shelf)
    (trace_facts traces.Session c.args.function.now c.args.file.now).opens _ c.reply_to_both-in-Session.result
    c.reply_to_both-in-Session.ensures.given)

pub returns-in-Hub-clause-ok : goal.returns-in-Hub-clause-ok
returns-in-Hub-clause-ok g c = rw c.in-Hub.is c.reply_to_both-in-Hub.ensures.ok

pub returns-in-Hub-clause-given : goal.returns-in-Hub-clause-given
returns-in-Hub-clause-given g c =
    rw c.in-Hub.is
    (nothing_more (g.H.Shelf.reads c.args.shelf.now) (g.H.Shelf.reads c.reply_to_both-in-Hub.new.shelf)
    (trace_facts traces.Hub c.args.function.now c.args.file.now).opens _ c.reply_to_both-in-Hub.result
    c.reply_to_both-in-Hub.ensures.given)
