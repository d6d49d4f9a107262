use Rattle.std.proofs.Common.{◌≡◌, ◌≤◌, ◌+◌, ◌++◌, length, drop, All}
use Rattle.std.specs.List.{flat_map}
use Rattle.ot_model.specs.declared.limits.TheConstants.{MAX_CELLS}
use Rattle.fn_rules.specs.Rules.{function_of}
use Rattle.ot_integrate.specs.Conditions.{IsExecuted}
use Rattle.ot_trace.specs.Orders.{order_trace, traces_from}
use Rattle.ot_trace.specs.Texts.{op_lines}
use Rattle.ot_trace.proofs.order.write_ops.Given as goal

-- the lines of the places that are left are still to be written, from the document and the forms so far
abbrev pub invariant-loop-number : goal.invariant-loop-number
invariant-loop-number l = record {
  text : l.out.items ++ flat_map (op_lines (function_of l.rules))
      (traces_from (function_of l.rules) l.current l.ops l.executed.items (drop l.number-index l.order))
      ≡ l.initial.out.items ++ flat_map (op_lines (function_of l.rules))
      (order_trace (function_of l.rules) l.doc l.ops l.order);
  executed : All (IsExecuted (function_of l.rules)) l.executed.items;
  count : length l.executed.items ≤ l.number-index;
  cells : length l.current ≤ MAX_CELLS + l.number-index;
}
