use Rattle.std.proofs.Common.{◌≡◌, drop}
use Rattle.ot_ways.specs.Differences.{difference_from, difference_of}
use Rattle.ot_ways.proofs.differences.difference_of.Given as goal

-- the cells so far are the same
abbrev pub invariant-loop-place : goal.invariant-loop-place
invariant-loop-place l =
    difference_from l.place (drop l.place l.left) (drop l.place l.right) ≡ difference_of l.left l.right
