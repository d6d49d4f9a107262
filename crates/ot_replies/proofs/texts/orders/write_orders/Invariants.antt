use Rattle.std.proofs.Common.{◌≡◌, ◌++◌, map, drop}
use Rattle.ot_integrate.specs.Ends.{outcome_of}
use Rattle.ot_replies.specs.OrderTexts.{order_lines}
use Rattle.ot_replies.proofs.texts.orders.write_orders.Given as goal

-- the lines of the orders that are left are still to be written
abbrev pub invariant-loop-number : goal.invariant-loop-number
invariant-loop-number l =
    l.out.items ++ order_lines l.number (map outcome_of (drop l.number l.ends)) ≡ order_lines 0 (map outcome_of l.ends)
