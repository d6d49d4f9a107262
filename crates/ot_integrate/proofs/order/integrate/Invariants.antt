use Rattle.std.proofs.Common.{◌≡◌, ◌≤◌, ◌+◌, length, map, drop, All}
use Rattle.ot_model.specs.declared.limits.TheConstants.{MAX_CELLS}
use Rattle.fn_rules.specs.Rules.{function_of}
use Rattle.fn_rules.specs.Orders.{integrated, outcome_from, operation_at}
use Rattle.ot_integrate.specs.Conditions.{IsExecuted}
use Rattle.ot_integrate.proofs.order.integrate.Given as goal

-- the outcome is that of the places that are left, from the document and the forms so far
abbrev pub invariant-loop-place : goal.invariant-loop-place
invariant-loop-place l = record {
  outcome : integrated (function_of l.rules) l.doc l.ops l.order
      ≡ outcome_from (function_of l.rules) l.current l.executed.items l.place
      (map (operation_at l.ops) (drop l.place l.order));
  executed : All (IsExecuted (function_of l.rules)) l.executed.items;
  mode : l.mode ≡ (function_of l.rules).head.mode;
  count : length l.executed.items ≤ l.place;
  cells : length l.current ≤ MAX_CELLS + l.place;
}
