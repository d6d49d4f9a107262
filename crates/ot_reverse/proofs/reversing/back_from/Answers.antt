-- A form stays near, and is of a kind that the second function is for too.
use Rattle.std.proofs.Common.{sym, ◌∙◌}
use Rattle.ot_model.specs.Operations.{kind_of}
use Rattle.fn_rules.specs.Rules.{function_of}
use Rattle.ot_values.specs.Values.{farthest}
use Rattle.ot_audit.proofs.Near.{in_range}
use Rattle.ot_reverse.proofs.Alike.{for_alike, form_alike, form_in_range}
use Rattle.ot_reverse.proofs.reversing.back_from.Goals as goal

pub transform-requires-clause-a_declared : goal.transform-requires-clause-a_declared
transform-requires-clause-a_declared c =
    let f = function_of c.args.rules.now in
    let e = function_of c.args.others.now in
    form_alike f.head e.head c.args.a.now c.in-Some.there c.requires.alike
    (c.transform_keeps_all_but_the_position.ensures f c.args.a.now c.args.b.now c.in-Some.there (sym c.requires.form
    ∙ c.in-Some.is)) c.requires.a_declared

pub transform-requires-clause-b_declared : goal.transform-requires-clause-b_declared
transform-requires-clause-b_declared c =
    for_alike (function_of c.args.rules.now).head (function_of c.args.others.now).head (kind_of c.args.b.now)
    c.requires.alike c.requires.b_declared

pub transform-requires-clause-a_in_range : goal.transform-requires-clause-a_in_range
transform-requires-clause-a_in_range c =
    form_in_range c.in-Some.there
    (c.transform_stays_near.ensures (function_of c.args.rules.now) c.args.a.now c.args.b.now c.in-Some.there farthest
    c.rules_are_valid.ensures c.requires.a_near c.requires.b_near (sym c.requires.form ∙ c.in-Some.is))

pub transform-requires-clause-b_in_range : goal.transform-requires-clause-b_in_range
transform-requires-clause-b_in_range c = in_range c.args.b.now c.requires.b_near
