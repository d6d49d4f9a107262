use Rattle.std.proofs.Common.{◌≡◌, drop}
use Rattle.fn_rules.specs.Rules.{function_of}
use Rattle.case_json.specs.Tests.{pairs_fault}
use Rattle.case_json.proofs.first_fault.fault_of_pairs.Given as goal

-- the operations so far are allowed with all behind them
abbrev pub invariant-loop-i : goal.invariant-loop-i
invariant-loop-i l = pairs_fault (function_of l.rules) 0 l.ops ≡ pairs_fault (function_of l.rules) l.i (drop l.i l.ops)
