-- The reader stands behind the first line.
use Rattle.fn_rules.specs.Rules.{function_of}
use Rattle.ot_bound.proofs.LowRun.{point_is, sections_judged}
use Rattle.ot_bound.proofs.bound.judge_behind.Goals as goal

pub returns-clause-judged : goal.returns-clause-judged
returns-clause-judged g c =
    let f = function_of c.args.rules.now in
    let reader = c.behind_header-reader.result in
    let feed = c.args.feed.now in
    sections_judged g.F.Feed f c.args.level c.args.bound feed c.judge_sections.new.feed reader
    (point_is f c.args.head.now c.args.level c.args.bound c.args.before _ reader feed c.behind_header-reader.ensures
    c.in_ok-parts.ensures c.requires.head c.requires.counted)
    c.judge_sections.result c.judge_sections.ensures.whole c.judge_sections.ensures.refused

pub returns-clause-kept : goal.returns-clause-kept
returns-clause-kept g c = c.judge_sections.ensures.leaves.kept
