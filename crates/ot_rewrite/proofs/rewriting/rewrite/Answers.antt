use Rattle.ot_rewrite.specs.Table.{rewritten}
use Rattle.ot_rewrite.proofs.rewriting.rewrite.Goals as goal

pub returns-in-Choose : goal.returns-in-Choose
unfolding rewritten
returns-in-Choose c = rw c.in-Choose.is (c.fitting.ensures _ c.choose.ensures)

pub returns-in-Deliver : goal.returns-in-Deliver
unfolding rewritten
returns-in-Deliver c = rw c.in-Deliver.is (c.fitting-in-Deliver.ensures _ c.deliver.ensures)
