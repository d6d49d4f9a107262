use Rattle.std.proofs.Common.{◌++◌, ◌∷◌, [], ap, ◌∙◌}
use Rattle.fn_rules.specs.Obligations.{with_third}
use Rattle.fn_rules.proofs.Pushing.{pushed_more, pushed_all}
use Rattle.fn_rules.proofs.obligation.push_triples.Goals as goal

pub loop-pair-preserved : goal.loop-pair-preserved
loop-pair-preserved c =
    pushed_more (with_third c.args.third) c.args.names.now.items c.loop-pair.names.items c.push.new.self.items
    c.args.pairs.now c.loop-pair.pair-index _ c.loop-pair-test.true c.loop-pair.invariant
    (c.in_ok-push.ensures.items ∙ ap (λ name. c.loop-pair.names.items ++ name ∷ []) c.triple.ensures)

pub returns : goal.returns
returns c =
    pushed_all (with_third c.args.third) c.args.names.now.items c.loop-pair.names.items c.args.pairs.now
    c.loop-pair.pair-index c.loop-pair-test.false c.loop-pair.invariant
