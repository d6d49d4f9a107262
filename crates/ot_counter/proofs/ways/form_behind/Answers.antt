use Rattle.std.proofs.Common.{◌+◌, arith, sym}
use Rattle.fn_rules.specs.Rules.{function_of}
use Rattle.ot_values.specs.Values.{farthest}
use Rattle.ot_counter.proofs.Near.{IsWithin-more, IsForKind-form}
use Rattle.ot_counter.proofs.ways.form_behind.Goals as goal

pub transform-requires-clause-a_in_range : goal.transform-requires-clause-a_in_range
transform-requires-clause-a_in_range c =
    IsWithin-more farthest 1099511627776 c.args.b.now (omega arith) c.requires.b_near

pub transform-requires-clause-b_in_range : goal.transform-requires-clause-b_in_range
transform-requires-clause-b_in_range c =
    IsWithin-more farthest 1099511627776 c.args.a.now (omega arith) c.requires.a_near

pub transform-requires-2-clause-a_in_range : goal.transform-requires-2-clause-a_in_range
transform-requires-2-clause-a_in_range c =
    IsWithin-more farthest 1099511627776 c.args.c.now (omega arith) c.requires.c_near

pub transform-requires-2-clause-b_in_range : goal.transform-requires-2-clause-b_in_range
transform-requires-2-clause-b_in_range c =
    IsWithin-more farthest 1099511627776 c.args.a.now (omega arith) c.requires.a_near

pub transform-requires-3-clause-a_declared : goal.transform-requires-3-clause-a_declared
transform-requires-3-clause-a_declared c =
    IsForKind-form (function_of c.args.rules.now).head c.args.c.now c.in_ok-c_after_a.c_after_a
    (c.transform_keeps_all_but_the_position.ensures (function_of c.args.rules.now) c.args.c.now c.args.a.now
    c.in_ok-c_after_a.c_after_a (sym c.in_ok-c_after_a.ensures)) c.requires.c_declared

pub transform-requires-3-clause-b_declared : goal.transform-requires-3-clause-b_declared
transform-requires-3-clause-b_declared c =
    IsForKind-form (function_of c.args.rules.now).head c.args.b.now c.in_ok-b_after_a.b_after_a
    (c.transform_keeps_all_but_the_position.ensures (function_of c.args.rules.now) c.args.b.now c.args.a.now
    c.in_ok-b_after_a.b_after_a (sym c.in_ok-b_after_a.ensures)) c.requires.b_declared

pub transform-requires-3-clause-a_in_range : goal.transform-requires-3-clause-a_in_range
transform-requires-3-clause-a_in_range c =
    IsWithin-more (farthest + 99) 1099511627776 c.in_ok-c_after_a.c_after_a (omega arith)
    (c.transform_stays_near.ensures (function_of c.args.rules.now) c.args.c.now c.args.a.now c.in_ok-c_after_a.c_after_a
    farthest c.rules_are_valid.ensures c.requires.c_near c.requires.a_near (sym c.in_ok-c_after_a.ensures))

pub transform-requires-3-clause-b_in_range : goal.transform-requires-3-clause-b_in_range
transform-requires-3-clause-b_in_range c =
    IsWithin-more (farthest + 99) 1099511627776 c.in_ok-b_after_a.b_after_a (omega arith)
    (c.transform_stays_near.ensures (function_of c.args.rules.now) c.args.b.now c.args.a.now c.in_ok-b_after_a.b_after_a
    farthest c.rules_are_valid.ensures c.requires.b_near c.requires.a_near (sym c.in_ok-b_after_a.ensures))
