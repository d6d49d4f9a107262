use Rattle.std.proofs.Common.{true, false}
use Rattle.fewest_edits.specs.Candidates.{member_of}
use Rattle.fewest_edits.proofs.Improving.{Improves-first, Improves-refused}
use Rattle.fewest_edits.proofs.scanning.try_candidate.Goals as goal

pub returns-in-Yes : goal.returns-in-Yes
returns-in-Yes g c =
    Improves-first (g.D.Decider.decides c.args.level) c.args.best.now
    (record { candidate = c.args.candidate; rank = c.args.rank; proved = true }) c.requires.rank c.requires.first
    (rw c.in-Yes.is at c.in_ok-decide.ensures)

pub returns-in-No : goal.returns-in-No
returns-in-No g c =
    Improves-refused (g.D.Decider.decides c.args.level) (member_of c.args.candidate) c.args.best.now
    (rw c.in-No.is at c.in_ok-decide.ensures)

pub returns-in-Spent : goal.returns-in-Spent
returns-in-Spent g c =
    Improves-first (g.D.Decider.decides c.args.level) c.args.best.now
    (record { candidate = c.args.candidate; rank = c.args.rank; proved = false }) c.requires.rank c.requires.first
    (rw c.in-Spent.is at c.in_ok-decide.ensures)
