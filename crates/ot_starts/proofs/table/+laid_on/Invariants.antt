use Rattle.ot_starts.proofs.table.+laid_on.Given as goal

abbrev pub decreases-laid_on : goal.decreases-laid_on
decreases-laid_on l = l.most
