use Rattle.ask_core.specs.Paths.{branches_at}
use Rattle.ot_prove.specs.Searching.{HasPassed, weight_of}
use Rattle.ot_prove.proofs.passing.passed.Given as goal

-- the search is as far as it was, or further
abbrev pub invariant-questions : goal.invariant-questions
invariant-questions g l =
    HasPassed (g.A.Asker.is_own l.asker) (g.A.Asker.plan l.asker) (g.A.Asker.root l.asker) l.budget l.tables.items
    (record { path = l.fn.path; tree = l.fn.tree; asked = l.fn.asked }) l.passed

abbrev pub decreases-questions : goal.decreases-questions
decreases-questions g l = weight_of (branches_at (g.A.Asker.plan l.asker) l.passed.path)
