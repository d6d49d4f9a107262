use Rattle.std.proofs.Common.{ℕ, length, arith, pos}
use Rattle.ot_model.specs.declared.op.Op.{Op}
use Rattle.ot_model.specs.declared.op.Op.TheVariants.{Ins}
use Rattle.fn_rules.specs.Rules.{function_of}
use Rattle.ot_ways.proofs.Usable.{three_told, usable_at}
use Rattle.ot_ways.proofs.ways.triple_ways.Goals as goal

-- what an element of the list is where there is none
abbrev no_op : Op
no_op = Ins (pos 0) 0 0

pub operation_way-left-requires : goal.operation_way-left-requires
operation_way-left-requires c =
    let at = λ (i : ℕ). usable_at c.enabled_operations_are_near.ensures.wider
    c.enabled_operations_are_near.ensures.enabled
    (function_of c.args.rules.now) (length c.args.doc.now) c.args.ops.now i no_op c.requires.integrable in
    let a = at 0 (omega arith) c.requires.few in
    let b = at 1 (omega arith) c.requires.few in
    let third = at 2 (omega arith) c.requires.few in
    record { a_declared = a.0; b_declared = b.0; c_declared = third.0; a_near = a.1; b_near = b.1; c_near = third.1 }

pub operation_way-right-requires : goal.operation_way-right-requires
operation_way-right-requires c =
    let at = λ (i : ℕ). usable_at c.enabled_operations_are_near.ensures.wider
    c.enabled_operations_are_near.ensures.enabled
    (function_of c.args.rules.now) (length c.args.doc.now) c.args.ops.now i no_op c.requires.integrable in
    let a = at 0 (omega arith) c.requires.few in
    let b = at 1 (omega arith) c.requires.few in
    let third = at 2 (omega arith) c.requires.few in
    record { a_declared = b.0; b_declared = a.0; c_declared = third.0; a_near = b.1; b_near = a.1; c_near = third.1 }

pub returns : goal.returns
returns c =
    three_told (function_of c.args.rules.now) c.args.doc.now c.args.ops.now no_op c.operation_way-left.result
    c.operation_way-right.result
    c.in_ok-one.one c.operation_way-left.ensures c.operation_way-right.ensures c.in_ok-one.ensures
    c.in-len3.len_at_least c.in-len3.len_below
