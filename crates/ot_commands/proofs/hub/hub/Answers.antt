-- What both files get is the reply to the command.
use Rattle.ot_commands.proofs.hub.hub.Goals as goal

pub returns-clause-ok : goal.returns-clause-ok
returns-clause-ok g c = c.reply_to_both.ensures.ok

pub returns-clause-steady : goal.returns-clause-steady
returns-clause-steady g c = c.reply_to_both.ensures.steady

pub returns-clause-given : goal.returns-clause-given
returns-clause-given g c = c.reply_to_both.ensures.given
