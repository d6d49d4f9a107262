-- What one file gets is the reply to the command.
use Rattle.ot_commands.proofs.mend.mend.Goals as goal

pub returns-clause-ok : goal.returns-clause-ok
returns-clause-ok g c = c.reply_to_one.ensures.ok

pub returns-clause-given : goal.returns-clause-given
returns-clause-given g c = c.reply_to_one.ensures.given
