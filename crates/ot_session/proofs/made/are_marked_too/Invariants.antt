use Rattle.std.proofs.Common.{◌≡◌, ◌<◌, ℕ, true}
use Rattle.ot_session.specs.Past.{is_marked}
use Rattle.ot_session.proofs.made.are_marked_too.Given as goal

-- what was marked so far is marked
abbrev pub invariant-loop-number : goal.invariant-loop-number
invariant-loop-number l = (k : ℕ) → k < l.number → is_marked l.first k ≡ true → is_marked l.second k ≡ true
