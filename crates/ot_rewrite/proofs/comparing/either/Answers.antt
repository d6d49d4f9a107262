use Rattle.ot_rewrite.proofs.comparing.either.Goals as goal

pub returns : goal.returns
returns c = c.fitting.ensures _ c.either.ensures
