use Rattle.std.proofs.Common.{ap, lit≤}
use Rattle.fn_rules.specs.Rules.{function_of}
use Rattle.ot_ways.specs.declared.one_step.Step.{Step}
use Rattle.ot_ways.proofs.Usable.{result_is_usable}
use Rattle.ot_ways.proofs.ways.operation_way.Goals as goal

pub step-second-requires-clause-a_in_range : goal.step-second-requires-clause-a_in_range
step-second-requires-clause-a_in_range c =
    c.enabled_operations_are_near.ensures.wider 1000000 1099511627776 c.args.b.now (lit≤ tt) c.requires.b_near

pub step-second-requires-clause-b_in_range : goal.step-second-requires-clause-b_in_range
step-second-requires-clause-b_in_range c =
    c.enabled_operations_are_near.ensures.wider 1000000 1099511627776 c.args.a.now (lit≤ tt) c.requires.a_near

pub step-third-requires-clause-a_in_range : goal.step-third-requires-clause-a_in_range
step-third-requires-clause-a_in_range c =
    c.enabled_operations_are_near.ensures.wider 1000000 1099511627776 c.args.c.now (lit≤ tt) c.requires.c_near

pub step-third-requires-clause-b_in_range : goal.step-third-requires-clause-b_in_range
step-third-requires-clause-b_in_range c =
    c.enabled_operations_are_near.ensures.wider 1000000 1099511627776 c.args.a.now (lit≤ tt) c.requires.a_near

-- what becomes of the second and the third operation may be transformed again
pub third_step-requires-clause-second : goal.third_step-requires-clause-second
third_step-requires-clause-second c =
    let f = function_of c.args.rules.now in
    result_is_usable c.enabled_operations_are_near.ensures.wider c.transform_stays_near.ensures f
    (c.functions_keep_forms.ensures f) c.rules_are_valid.ensures c.args.b.now c.args.a.now c.step-second.result.result
    c.requires.b_declared c.requires.b_near c.requires.a_near (ap (λ (s : Step). s.result) c.step-second.ensures)

pub third_step-requires-clause-third : goal.third_step-requires-clause-third
third_step-requires-clause-third c =
    let f = function_of c.args.rules.now in
    result_is_usable c.enabled_operations_are_near.ensures.wider c.transform_stays_near.ensures
    f (c.functions_keep_forms.ensures f) c.rules_are_valid.ensures c.args.c.now c.args.a.now c.step-third.result.result
    c.requires.c_declared c.requires.c_near c.requires.a_near (ap (λ (s : Step). s.result) c.step-third.ensures)
