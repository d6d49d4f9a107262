use Rattle.std.proofs.Common.{◌≡◌, ◌≤◌, ◌++◌, map}
use Rattle.fn_rules.specs.Functions.{case_of}
use Rattle.ot_drill.specs.Workload.{further_cases}
use Rattle.ot_drill.proofs.function.further_cases.Given as goal

abbrev pub invariant-loop-cells : goal.invariant-loop-cells
invariant-loop-cells l = record {
  cells : l.cells ≤ l.count;
  cases : map case_of l.cases.items ++ further_cases l.cells ≡ further_cases l.count;
}

abbrev pub decreases-loop-cells : goal.decreases-loop-cells
decreases-loop-cells l = l.cells
