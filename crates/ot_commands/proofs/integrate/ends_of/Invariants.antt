use Rattle.std.proofs.Common.{◌≡◌, map, take}
use Rattle.fn_rules.specs.Orders.{integrated}
use Rattle.fn_rules.specs.Rules.{function_of}
use Rattle.ot_integrate.specs.Ends.{outcome_of}
use Rattle.ot_commands.proofs.integrate.ends_of.Given as goal

-- the orders so far were integrated
abbrev pub invariant-loop-order : goal.invariant-loop-order
invariant-loop-order l =
    map outcome_of l.ends ≡ map (integrated (function_of l.rules) l.trial.doc l.trial.ops)
    (take l.order-index l.order-items)
