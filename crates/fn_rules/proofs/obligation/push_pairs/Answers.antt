use Rattle.fn_rules.specs.declared.function.ObName.TheVariants.{Pair}
use Rattle.fn_rules.proofs.Pushing.{pushed_more, pushed_all}
use Rattle.fn_rules.proofs.obligation.push_pairs.Goals as goal

pub loop-second-preserved : goal.loop-second-preserved
loop-second-preserved c =
    pushed_more (Pair c.args.first) c.args.names.now.items c.loop-second.names.items
    c.push.new.self.items c.args.kinds.now
    c.loop-second.second-index _ c.loop-second-test.true c.loop-second.invariant c.in_ok-push.ensures.items

pub returns : goal.returns
returns c =
    pushed_all (Pair c.args.first) c.args.names.now.items c.loop-second.names.items c.args.kinds.now
    c.loop-second.second-index c.loop-second-test.false c.loop-second.invariant
