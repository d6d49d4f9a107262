-- The line opens the tree, and the newline behind it closes it.
use Rattle.std.proofs.Common.{[], Ok}
use Rattle.std.proofs.lemmas.Result.{err_from_is_err_and}
use Rattle.fn_rules.specs.Rules.{function_of}
use Rattle.ot_questions.specs.Obligation.{plan_below}
use Rattle.ot_sections.specs.Feeding.{fed}
use Rattle.ot_sections.proofs.Leading.{between_parts, misspelt_refused}
use Rattle.ot_sections.proofs.Leaving.{goes_on_by, leaves_as, leaves_on}
use Rattle.section_lists.proofs.SectionRun.{newline_refused, section_behind, section_leads, tree_refused}
use Rattle.section_lists.proofs.section.judge_section.Goals as goal

pub returns-in_err-_line-clause-refused : goal.returns-in_err-_line-clause-refused
returns-in_err-_line-clause-refused g c =
    let p = err_from_is_err_and c.from_residual.result c.from_residual.ensures.1 in
    rw (p.1, p.2) (misspelt_refused g.F.Feed (plan_below (function_of c.args.rules.now) c.args.below)
    (fed c.args.reader.now c.args.feed.now) []
    c.expect_part.new.feed c.in_err-_line.field-0.0 c.in_err-_line.ensures.misspelt)

pub returns-in_err-_line-clause-leaves : goal.returns-in_err-_line-clause-leaves
returns-in_err-_line-clause-leaves g c =
    let p = err_from_is_err_and c.from_residual.result c.from_residual.ensures.1 in
    rw (p.1, p.2) (leaves_as g.F.Feed (fed c.args.reader.now c.args.feed.now) (fed c.expect_part.new.reader
    c.expect_part.new.feed) c.in_err-_line.field-0.0 (rw c.in_err-_line.was at c.expect_part.ensures.leaves))

pub returns-in_err-judge_in-clause-refused : goal.returns-in_err-judge_in-clause-refused
returns-in_err-judge_in-clause-refused g c =
    let p = err_from_is_err_and c.from_residual-in_err-judge_in.result c.from_residual-in_err-judge_in.ensures.1 in
    rw (p.1, p.2)
    (tree_refused (plan_below (function_of c.args.rules.now) c.args.below) g.F.Feed
    (fed c.args.reader.now c.args.feed.now)
    (fed c.expect_part.new.reader c.expect_part.new.feed) c.in_ok-_line._line c.args.ob c.requires.line.0
    (record { at = c.requires.line.1; came = c.in_ok-_line.ensures.came }) c.judge_in.new.feed
    c.in_err-judge_in.field-0.0 c.in_err-judge_in.ensures.refused)

pub returns-in_err-judge_in-clause-leaves : goal.returns-in_err-judge_in-clause-leaves
returns-in_err-judge_in-clause-leaves g c =
    let p = err_from_is_err_and c.from_residual-in_err-judge_in.result c.from_residual-in_err-judge_in.ensures.1 in
    let first = goes_on_by g.F.Feed (fed c.args.reader.now c.args.feed.now)
    (fed c.expect_part.new.reader c.expect_part.new.feed) _ (rw c.in_ok-_line.was at c.expect_part.ensures.leaves) in
    rw (p.1, p.2) (leaves_on g.F.Feed (fed c.args.reader.now c.args.feed.now)
    (fed c.expect_part.new.reader c.expect_part.new.feed)
    (fed c.judge_in.new.reader c.judge_in.new.feed) _ first (rw c.in_err-judge_in.was at c.judge_in.ensures.leaves))

pub returns-in_err-_newline-clause-refused : goal.returns-in_err-_newline-clause-refused
returns-in_err-_newline-clause-refused g c =
    let p = err_from_is_err_and c.from_residual-in_err-_newline.result c.from_residual-in_err-_newline.ensures.1 in
    rw (p.1, p.2)
    (newline_refused (plan_below (function_of c.args.rules.now) c.args.below) g.F.Feed
    (fed c.args.reader.now c.args.feed.now)
    (fed c.expect_part.new.reader c.expect_part.new.feed) c.in_ok-_line._line c.args.ob c.requires.line.0
    (record { at = c.requires.line.1; came = c.in_ok-_line.ensures.came })
    (fed c.judge_in.new.reader c.judge_in.new.feed) c.in_ok-judge_in.ensures.leads
    c.in_ok-judge_in.ensures.closed.1 c.expect_part-2.new.feed c.in_err-_newline.field-0.0
    c.in_err-_newline.ensures.misspelt)

-- what is left where the line's end was refused
pub returns-in_err-_newline-clause-leaves : goal.returns-in_err-_newline-clause-leaves
returns-in_err-_newline-clause-leaves g c =
    let p = err_from_is_err_and c.from_residual-in_err-_newline.result c.from_residual-in_err-_newline.ensures.1 in
    let first = goes_on_by g.F.Feed (fed c.args.reader.now c.args.feed.now)
    (fed c.expect_part.new.reader c.expect_part.new.feed) _ (rw c.in_ok-_line.was at c.expect_part.ensures.leaves) in
    let second = leaves_on g.F.Feed (fed c.args.reader.now c.args.feed.now)
    (fed c.expect_part.new.reader c.expect_part.new.feed)
    (fed c.judge_in.new.reader c.judge_in.new.feed) (Ok tt) first
    (goes_on_by g.F.Feed (fed c.expect_part.new.reader c.expect_part.new.feed)
    (fed c.judge_in.new.reader c.judge_in.new.feed) _ (rw c.in_ok-judge_in.was at c.judge_in.ensures.leaves)) in
    rw (p.1, p.2)
    (leaves_as g.F.Feed (fed c.args.reader.now c.args.feed.now)
    (fed c.expect_part-2.new.reader c.expect_part-2.new.feed) c.in_err-_newline.field-0.0
    (leaves_on g.F.Feed (fed c.args.reader.now c.args.feed.now) (fed c.judge_in.new.reader c.judge_in.new.feed)
    (fed c.expect_part-2.new.reader c.expect_part-2.new.feed) _ second
    (rw c.in_err-_newline.was at c.expect_part-2.ensures.leaves)))

pub returns-clause-behind : goal.returns-clause-behind
returns-clause-behind g c = (
  between_parts g.F.Feed (fed c.judge_in.new.reader c.judge_in.new.feed)
      (fed c.expect_part-2.new.reader c.expect_part-2.new.feed) c.in_ok-_newline._newline c.in_ok-_newline.ensures.came,
  λ others at.
      section_behind (plan_below (function_of c.args.rules.now) c.args.below) g.F.Feed (fed c.args.reader.now
      c.args.feed.now) (fed c.expect_part.new.reader c.expect_part.new.feed) c.in_ok-_line._line c.args.ob others
      (record { at = at; came = c.in_ok-_line.ensures.came }) (fed c.judge_in.new.reader c.judge_in.new.feed)
      c.in_ok-judge_in.ensures.leads c.in_ok-judge_in.ensures.closed.1
      c.in_ok-_newline._newline (fed c.expect_part-2.new.reader c.expect_part-2.new.feed) c.in_ok-_newline.ensures.came,
)

pub returns-clause-leads : goal.returns-clause-leads
returns-clause-leads g c =
    section_leads (plan_below (function_of c.args.rules.now) c.args.below) g.F.Feed
    (fed c.args.reader.now c.args.feed.now)
    (fed c.expect_part.new.reader c.expect_part.new.feed) c.in_ok-_line._line c.args.ob c.requires.line.0
    (record { at = c.requires.line.1; came = c.in_ok-_line.ensures.came })
    (fed c.judge_in.new.reader c.judge_in.new.feed) c.in_ok-judge_in.ensures.leads
    c.in_ok-judge_in.ensures.closed.1 c.in_ok-_newline._newline
    (fed c.expect_part-2.new.reader c.expect_part-2.new.feed) c.in_ok-_newline.ensures.came

pub returns-clause-leaves : goal.returns-clause-leaves
returns-clause-leaves g c =
    let first = goes_on_by g.F.Feed (fed c.args.reader.now c.args.feed.now)
    (fed c.expect_part.new.reader c.expect_part.new.feed) _ (rw c.in_ok-_line.was at c.expect_part.ensures.leaves) in
    let second = leaves_on g.F.Feed (fed c.args.reader.now c.args.feed.now)
    (fed c.expect_part.new.reader c.expect_part.new.feed)
    (fed c.judge_in.new.reader c.judge_in.new.feed) (Ok tt) first
    (goes_on_by g.F.Feed (fed c.expect_part.new.reader c.expect_part.new.feed)
    (fed c.judge_in.new.reader c.judge_in.new.feed) _ (rw c.in_ok-judge_in.was at c.judge_in.ensures.leaves)) in
    leaves_on g.F.Feed (fed c.args.reader.now c.args.feed.now) (fed c.judge_in.new.reader c.judge_in.new.feed)
    (fed c.expect_part-2.new.reader c.expect_part-2.new.feed) (Ok tt) second
    (goes_on_by g.F.Feed (fed c.judge_in.new.reader c.judge_in.new.feed) (fed c.expect_part-2.new.reader
    c.expect_part-2.new.feed) _ (rw c.in_ok-_newline.was at c.expect_part-2.ensures.leaves))
