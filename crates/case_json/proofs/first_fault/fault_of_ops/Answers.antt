use Rattle.std.proofs.Common.{sym, ◌∙◌}
use Rattle.fn_rules.specs.Rules.{function_of}
use Rattle.case_json.specs.Tests.{first_fault, operation_fault}
use Rattle.case_json.proofs.Tested.{fault_behind, fault_here, no_fault}
use Rattle.case_json.proofs.first_fault.fault_of_ops.Goals as goal

pub returns-then-is_some : goal.returns-then-is_some
returns-then-is_some c =
    let test = operation_fault (function_of c.args.rules.now) c.args.cells in
    fault_here test c.loop-i.i c.loop-i.i c.args.ops.now (first_fault test 0 c.args.ops.now)
    c.loop-i.invariant _ c.loop-i-test.true
    c.fault_of_op-fault.result c.fault_of_op-fault.ensures (sym c.is_some.ensures ∙ c.if-is_some.true)

pub loop-i-preserved : goal.loop-i-preserved
loop-i-preserved c =
    let test = operation_fault (function_of c.args.rules.now) c.args.cells in
    fault_behind test c.loop-i.i c.loop-i.i c.args.ops.now (first_fault test 0 c.args.ops.now)
    c.loop-i.invariant _ c.loop-i-test.true
    c.fault_of_op-fault.result c.fault_of_op-fault.ensures (sym c.is_some.ensures ∙ c.if-is_some.false)

pub returns : goal.returns
returns c =
    let test = operation_fault (function_of c.args.rules.now) c.args.cells in
    no_fault test c.loop-i.i c.loop-i.i c.args.ops.now (first_fault test 0 c.args.ops.now)
    c.loop-i.invariant c.loop-i-test.false
