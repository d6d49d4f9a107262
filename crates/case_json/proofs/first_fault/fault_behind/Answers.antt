use Rattle.std.proofs.Common.{◌≡◌, ◌+◌, drop, arith, sym, ap, ◌∙◌}
use Rattle.fn_rules.specs.Rules.{function_of}
use Rattle.case_json.specs.Tests.{first_fault, pair_fault}
use Rattle.case_json.proofs.Tested.{fault_behind, fault_here, no_fault}
use Rattle.case_json.proofs.first_fault.fault_behind.Goals as goal

pub returns-then-is_some : goal.returns-then-is_some
returns-then-is_some c =
    let test = pair_fault (function_of c.args.rules.now) c.args.i c.args.op.now in
    fault_here test (c.args.i + 1 + c.loop-n.n) c.loop-n.n
    c.args.others.now (first_fault test (c.args.i + 1) c.args.others.now) c.loop-n.invariant _ c.loop-n-test.true
    c.fault_of_pair-fault.result c.fault_of_pair-fault.ensures (sym c.is_some.ensures ∙ c.if-is_some.true)

pub loop-n-preserved : goal.loop-n-preserved
loop-n-preserved c =
    let test = pair_fault (function_of c.args.rules.now) c.args.i c.args.op.now in
    let next : c.args.i + 1 + c.loop-n.n + 1 ≡ c.args.i + 1 + (c.loop-n.n + 1) = omega arith in
    fault_behind test (c.args.i + 1 + c.loop-n.n) c.loop-n.n
    c.args.others.now (first_fault test (c.args.i + 1) c.args.others.now) c.loop-n.invariant _ c.loop-n-test.true
    c.fault_of_pair-fault.result c.fault_of_pair-fault.ensures (sym c.is_some.ensures ∙ c.if-is_some.false)
    ∙ ap (λ n. first_fault test n (drop (c.loop-n.n + 1) c.args.others.now)) next

pub returns : goal.returns
returns c =
    let test = pair_fault (function_of c.args.rules.now) c.args.i c.args.op.now in
    no_fault test (c.args.i + 1 + c.loop-n.n) c.loop-n.n c.args.others.now
    (first_fault test (c.args.i + 1) c.args.others.now) c.loop-n.invariant c.loop-n-test.false
