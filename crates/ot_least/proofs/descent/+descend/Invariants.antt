use Rattle.ot_least.proofs.descent.+descend.Given as goal

abbrev pub decreases-descend : goal.decreases-descend
decreases-descend l = l.end.cells
