use Rattle.std.proofs.Common.{◌≡◌, drop}
use Rattle.ot_session.specs.FormPairs.{older_than}
use Rattle.ot_session.proofs.pairs.older_than.Given as goal

-- the number is none of those that were passed
abbrev pub invariant-loop-place : goal.invariant-loop-place
invariant-loop-place l = older_than l.number l.list ≡ older_than l.number (drop l.place l.list)
