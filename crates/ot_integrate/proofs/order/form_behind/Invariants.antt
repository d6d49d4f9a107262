use Rattle.std.proofs.Common.{◌≡◌, ◌+◌, ◌*◌, drop}
use Rattle.ot_model.specs.Operations.{kind_of}
use Rattle.fn_rules.specs.Rules.{function_of}
use Rattle.fn_rules.specs.Functions.{IsForKind}
use Rattle.fn_rules.specs.Conditions.{IsWithin}
use Rattle.fn_rules.specs.Orders.{through}
use Rattle.ot_integrate.specs.Conditions.{most_cells}
use Rattle.ot_integrate.proofs.order.form_behind.Given as goal

-- what is left of the executed operations is still to be gone through; each moves the form by at most 99
abbrev pub invariant-loop-other : goal.invariant-loop-other
invariant-loop-other l = record {
  form : through (function_of l.rules) l.fn.op l.executed
      ≡ through (function_of l.rules) l.form (drop l.other-index l.executed);
  declared : IsForKind (function_of l.rules).head (kind_of l.form);
  near : IsWithin (most_cells + 99 * l.other-index) l.form;
}
