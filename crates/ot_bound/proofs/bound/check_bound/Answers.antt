-- Some bytes that the feed may give have the judgement, and no other answer has it.
use Rattle.fn_rules.specs.Rules.{function_of}
use Rattle.ot_bound.proofs.LowRun.{judged_some, no_other}
use Rattle.ot_bound.proofs.bound.check_bound.Goals as goal

pub returns-clause-judged : goal.returns-clause-judged
returns-clause-judged g c =
    judged_some g.F.Feed.left g.F.Feed.bound g.F.Feed.gave g.F.Feed.hand (function_of c.args.rules.now) c.args.feed.now
    c.judge_low.new.feed c.judge_low.result (c.feeds_have_bytes.ensures c.judge_low.new.feed) c.judge_low.ensures.judged

pub returns-clause-only : goal.returns-clause-only
returns-clause-only g c =
    λ bytes other is judged.
    no_other g.F.Feed.left g.F.Feed.bound c.bytes_have_one_low_judgement.ensures (function_of c.args.rules.now)
    c.args.feed.now bytes c.judge_low.result other is (returns-clause-judged g c) judged
