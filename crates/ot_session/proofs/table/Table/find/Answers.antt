use Rattle.std.proofs.Common.{◌∙◌}
use Rattle.ot_session.proofs.table.Table.find.Goals as goal

pub returns : goal.returns
returns c = rw (← c.self.view_is) (c.copied.ensures ∙ c.get.ensures.value)
