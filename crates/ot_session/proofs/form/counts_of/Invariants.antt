use Rattle.std.proofs.Common.{◌≡◌, ◌<◌, ◌+◌, ℕ, get_or}
use Rattle.ot_causal.specs.Counting.{from_site}
use Rattle.ot_session.specs.Past.{past_of}
use Rattle.ot_session.proofs.form.counts_of.Given as goal

abbrev pub invariant-loop-place : goal.invariant-loop-place
invariant-loop-place l = (k : ℕ) → k < l.place → get_or l.count-items k 0 ≡ from_site (past_of l.made) (k + 1) l.list
