use Rattle.std.proofs.Common.{◌<◌, ℕ}
use Rattle.ot_session.specs.Past.{is_marked, past_of}
use Rattle.ot_session.specs.Taking.{IsDueByMarks}
use Rattle.ot_session.proofs.taking.least_due.Given as goal

-- none is due so far
abbrev pub invariant-loop-number : goal.invariant-loop-number
invariant-loop-number l = (k : ℕ) → k < l.number
    → ¬ (IsDueByMarks (past_of l.made) (is_marked l.integrated) (is_marked l.held) k)
