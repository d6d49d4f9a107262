use Rattle.std.proofs.Common.{◌≡◌, drop}
use Rattle.case_json.specs.Tests.{first_fault, order_fault}
use Rattle.case_json.proofs.first_fault.fault_of_orders.Given as goal

-- the orders so far have no fault
abbrev pub invariant-loop-i : goal.invariant-loop-i
invariant-loop-i l =
    first_fault (order_fault l.count) 0 l.orders ≡ first_fault (order_fault l.count) l.i (drop l.i l.orders)
