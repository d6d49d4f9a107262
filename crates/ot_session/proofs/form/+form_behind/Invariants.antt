use Rattle.std.proofs.Common.{length}
use Rattle.ot_session.proofs.form.+form_behind.Given as goal

-- proposed from what the function passes where it calls itself
abbrev pub decreases-form_behind : goal.decreases-form_behind
decreases-form_behind l = length l.list.now
