use Rattle.std.proofs.Common.{◌≡◌, ◌+◌, drop}
use Rattle.fn_rules.specs.Rules.{function_of}
use Rattle.case_json.specs.Tests.{first_fault, pair_fault}
use Rattle.case_json.proofs.first_fault.fault_behind.Given as goal

-- the operations so far are allowed
abbrev pub invariant-loop-n : goal.invariant-loop-n
invariant-loop-n l =
    first_fault (pair_fault (function_of l.rules) l.i l.op) (l.i + 1) l.others
    ≡ first_fault (pair_fault (function_of l.rules) l.i l.op) (l.i + 1 + l.n) (drop l.n l.others)
