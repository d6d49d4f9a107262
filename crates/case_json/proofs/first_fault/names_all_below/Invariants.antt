use Rattle.std.proofs.Common.{◌≡◌, true}
use Rattle.fn_rules.specs.Orders.{names_below}
use Rattle.case_json.proofs.first_fault.names_all_below.Given as goal

-- the numbers so far are named
abbrev pub invariant-loop-i : goal.invariant-loop-i
invariant-loop-i l = names_below l.i l.order ≡ true
