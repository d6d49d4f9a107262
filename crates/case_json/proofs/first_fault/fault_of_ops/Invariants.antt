use Rattle.std.proofs.Common.{◌≡◌, drop}
use Rattle.fn_rules.specs.Rules.{function_of}
use Rattle.case_json.specs.Tests.{first_fault, operation_fault}
use Rattle.case_json.proofs.first_fault.fault_of_ops.Given as goal

-- the operations so far have no fault
abbrev pub invariant-loop-i : goal.invariant-loop-i
invariant-loop-i l =
    first_fault (operation_fault (function_of l.rules) l.cells) 0 l.ops
    ≡ first_fault (operation_fault (function_of l.rules) l.cells) l.i (drop l.i l.ops)
