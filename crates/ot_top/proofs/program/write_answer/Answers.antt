-- No reply has the status of a fault of the outside.
use Rattle.std.proofs.Common.{◌∙◌, sym}
use Rattle.ot_replies.specs.Texts.{status_of}
use Rattle.ot_top.proofs.Told.{no_fault, reply_status}
use Rattle.ot_top.proofs.program.write_answer.Goals as goal

pub returns-in-Ok-write_all-clause-shelf_fault : goal.returns-in-Ok-write_all-clause-shelf_fault
returns-in-Ok-write_all-clause-shelf_fault g c =
    λ six.
    absurd ((no_fault (status_of c.in-Ok.reply) (reply_status c.in-Ok.reply)).0 (sym c.status-status.ensures ∙ six))

pub returns-in-Ok-write_all-clause-sink_fault : goal.returns-in-Ok-write_all-clause-sink_fault
returns-in-Ok-write_all-clause-sink_fault g c =
    λ seven. absurd ((no_fault (status_of c.in-Ok.reply) (reply_status c.in-Ok.reply)).1
    (sym c.status-status.ensures ∙ seven))
