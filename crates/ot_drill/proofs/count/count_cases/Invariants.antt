use Rattle.std.proofs.Common.{◌≡◌, ◌≤◌, ◌*◌, map, sum, take}
use Rattle.ot_model.specs.declared.op.TheConstants.{KINDS}
use Rattle.fn_rules.specs.Rules.{function_of}
use Rattle.ot_drill.specs.Workload.{cases_with}
use Rattle.ot_drill.proofs.count.count_cases.Given as goal

-- the cases for the kinds before this one are counted
abbrev pub invariant-loop-first : goal.invariant-loop-first
invariant-loop-first l = record {
  count : l.count ≡ sum (map (cases_with (function_of l.rules)) (take l.first-index KINDS));
  few : l.count ≤ 192 * l.first-index;
}
