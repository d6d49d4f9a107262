use Rattle.std.proofs.Common.{◌≡◌, map, drop}
use Rattle.fn_rules.specs.Functions.{case_of}
use Rattle.ot_ways.specs.Taken.{first_true}
use Rattle.ot_ways.proofs.taking.first_true.Given as goal

-- the first case whose guard is true is among those that are left
abbrev pub invariant-loop-number : goal.invariant-loop-number
invariant-loop-number l =
    first_true l.number (map case_of (drop l.number l.cases)) l.a l.b ≡ first_true 0 (map case_of l.cases) l.a l.b
