use Rattle.std.proofs.Common.{◌≡◌, ◌≤◌, ◌*◌, map, sum, take}
use Rattle.ot_model.specs.declared.op.TheConstants.{KINDS}
use Rattle.fn_rules.specs.Rules.{function_of}
use Rattle.ot_drill.specs.Workload.{cases_for}
use Rattle.ot_drill.proofs.count.cases_with.Given as goal

-- the cases for the kinds before this one are counted
abbrev pub invariant-loop-second : goal.invariant-loop-second
invariant-loop-second l = record {
  count : l.count ≡ sum (map (cases_for (function_of l.rules) l.first) (take l.second-index KINDS));
  few : l.count ≤ 64 * l.second-index;
}
