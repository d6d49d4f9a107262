use Rattle.std.proofs.Common.{◌≡◌, ◌++◌, drop}
use Rattle.fn_rules.specs.Rules.{function_of}
use Rattle.ot_trace.specs.Texts.{case_trace_text, orders_text}
use Rattle.ot_trace.proofs.order.trace_case.Given as goal

-- the orders that are left are still to be written
abbrev pub invariant-loop-number : goal.invariant-loop-number
invariant-loop-number l =
    l.out.items ++ orders_text (function_of l.rules) l.trial.doc l.trial.ops l.number (drop l.number l.trial.orders)
    ≡ l.initial.out.items ++ case_trace_text (function_of l.rules) l.trial
