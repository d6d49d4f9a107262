-- What is judged of the end is judged of the sections before it.
use Rattle.std.proofs.Common.{[]}
use Rattle.std.proofs.lemmas.Result.{err_from_is_err_and, on_ok_weaker}
use Rattle.fn_rules.specs.Rules.{function_of}
use Rattle.ot_questions.specs.Obligation.{plan_below}
use Rattle.ot_sections.specs.Feeding.{fed}
use Rattle.ot_sections.specs.Stands.{stand}
use Rattle.ot_sections.proofs.Leading.{answers_through, any_plan, errors_through}
use Rattle.section_lists.proofs.section.judge_sections.Goals as goal

pub returns-in_err-judge_each-clause-refused : goal.returns-in_err-judge_each-clause-refused
returns-in_err-judge_each-clause-refused g c =
    let p = err_from_is_err_and c.from_residual.result c.from_residual.ensures.1 in
    rw (p.1, p.2) c.in_err-judge_each.ensures.refused

pub returns-clause-whole : goal.returns-clause-whole
returns-clause-whole g c =
    answers_through g.F.Feed (plan_below (function_of c.args.rules.now) c.args.below)
    (stand (fed c.args.reader.now c.args.feed.now) [])
    (stand (fed c.judge_each.new.reader c.judge_each.new.feed) []) c.read_end.new.feed c.read_end.result
    c.in_ok-judge_each.ensures.leads
    (on_ok_weaker c.read_end.result (λ any. any (plan_below (function_of c.args.rules.now) c.args.below))
    c.read_end.ensures.whole)

pub returns-clause-refused : goal.returns-clause-refused
returns-clause-refused g c =
    errors_through g.F.Feed (plan_below (function_of c.args.rules.now) c.args.below)
    (stand (fed c.args.reader.now c.args.feed.now) [])
    (stand (fed c.judge_each.new.reader c.judge_each.new.feed) []) c.read_end.new.feed c.read_end.result
    c.in_ok-judge_each.ensures.leads
    (any_plan g.F.Feed (plan_below (function_of c.args.rules.now) c.args.below) (stand (fed c.judge_each.new.reader
    c.judge_each.new.feed) []) c.read_end.new.feed c.read_end.result c.read_end.ensures.refused)
