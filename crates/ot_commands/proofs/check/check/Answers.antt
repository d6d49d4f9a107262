-- What both files get is the reply to the command.
use Rattle.ot_commands.specs.Check.{check_facts}
use Rattle.ot_commands.proofs.Called.{nothing_more}
use Rattle.ot_commands.proofs.check.check.Goals as goal

pub returns-clause-ok : goal.returns-clause-ok
returns-clause-ok g c = c.reply_to_both.ensures.ok

pub returns-clause-given : goal.returns-clause-given
returns-clause-given g c =
    nothing_more (g.H.Shelf.reads c.args.shelf.now) (g.H.Shelf.reads c.reply_to_both.new.shelf)
    (check_facts c.args.function.now c.args.certificate.now).opens _ c.reply_to_both.result
    c.reply_to_both.ensures.given
