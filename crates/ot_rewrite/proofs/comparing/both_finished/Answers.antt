use Rattle.ot_rewrite.proofs.comparing.both_finished.Goals as goal

pub returns-in-Some-right : goal.returns-in-Some-right
returns-in-Some-right c = rw (c.in-Some.is, c.in-Some-right.is) (c.fitting.ensures _ c.same_finished.ensures)
