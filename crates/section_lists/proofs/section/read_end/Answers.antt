-- What stands behind the last line is refused.
use Rattle.std.proofs.Common.{[], Ok}
use Rattle.std.proofs.lemmas.Result.{err_from_is_err_and}
use Rattle.ot_sections.specs.Feeding.{fed}
use Rattle.ot_sections.proofs.Leading.{misspelt_refused}
use Rattle.ot_sections.proofs.Leaving.{goes_on_by, leaves_as, leaves_on}
use Rattle.section_lists.proofs.SectionRun.{end_judged, trailing_refused}
use Rattle.section_lists.proofs.section.read_end.Goals as goal

pub returns-in_err-_end-clause-refused : goal.returns-in_err-_end-clause-refused
returns-in_err-_end-clause-refused g c =
    let p = err_from_is_err_and c.from_residual.result c.from_residual.ensures.1 in
    rw (p.1, p.2)
    (λ plan. misspelt_refused g.F.Feed plan (fed c.args.reader.now c.args.feed.now) [] c.expect_part.new.feed
    c.in_err-_end.field-0.0 c.in_err-_end.ensures.misspelt)

pub returns-in_err-_end-clause-leaves : goal.returns-in_err-_end-clause-leaves
returns-in_err-_end-clause-leaves g c =
    let p = err_from_is_err_and c.from_residual.result c.from_residual.ensures.1 in
    rw (p.1, p.2) (leaves_as g.F.Feed (fed c.args.reader.now c.args.feed.now) (fed c.expect_part.new.reader
    c.expect_part.new.feed) c.in_err-_end.field-0.0 (rw c.in_err-_end.was at c.expect_part.ensures.leaves))

pub returns-in_err-next_part-clause-refused : goal.returns-in_err-next_part-clause-refused
returns-in_err-next_part-clause-refused g c =
    let p = err_from_is_err_and c.from_residual-in_err-next_part.result c.from_residual-in_err-next_part.ensures.1 in
    rw (p.1, p.2)
    (λ plan.
    trailing_refused g.F.Feed plan (fed c.args.reader.now c.args.feed.now) (fed c.expect_part.new.reader
    c.expect_part.new.feed) c.in_ok-_end._end c.requires.line c.in_ok-_end.ensures.came c.next_part.new.feed
    c.in_err-next_part.field-0.0 c.in_err-next_part.ensures.misspelt)

pub returns-in_err-next_part-clause-leaves : goal.returns-in_err-next_part-clause-leaves
returns-in_err-next_part-clause-leaves g c =
    let p = err_from_is_err_and c.from_residual-in_err-next_part.result c.from_residual-in_err-next_part.ensures.1 in
    let first = goes_on_by g.F.Feed (fed c.args.reader.now c.args.feed.now)
    (fed c.expect_part.new.reader c.expect_part.new.feed) _ (rw c.in_ok-_end.was at c.expect_part.ensures.leaves) in
    rw (p.1, p.2)
    (leaves_as g.F.Feed (fed c.args.reader.now c.args.feed.now) (fed c.next_part.new.reader c.next_part.new.feed)
    c.in_err-next_part.field-0.0
    (leaves_on g.F.Feed (fed c.args.reader.now c.args.feed.now) (fed c.expect_part.new.reader c.expect_part.new.feed)
    (fed c.next_part.new.reader c.next_part.new.feed) _ first
    (rw c.in_err-next_part.was at c.next_part.ensures.leaves)))

pub returns-clause-whole : goal.returns-clause-whole
returns-clause-whole g c =
    λ plan.
    end_judged g.F.Feed plan (fed c.args.reader.now c.args.feed.now) (fed c.expect_part.new.reader
    c.expect_part.new.feed) c.in_ok-_end._end c.requires.line c.in_ok-_end.ensures.came c.next_part.new.feed
    (rw c.in-None.is at c.in_ok-next_part.ensures.over)

pub returns-clause-leaves : goal.returns-clause-leaves
returns-clause-leaves g c =
    let first = goes_on_by g.F.Feed (fed c.args.reader.now c.args.feed.now)
    (fed c.expect_part.new.reader c.expect_part.new.feed) _ (rw c.in_ok-_end.was at c.expect_part.ensures.leaves) in
    leaves_on g.F.Feed (fed c.args.reader.now c.args.feed.now) (fed c.expect_part.new.reader c.expect_part.new.feed)
    (fed c.next_part.new.reader c.next_part.new.feed) (Ok tt) first
    (goes_on_by g.F.Feed (fed c.expect_part.new.reader c.expect_part.new.feed)
    (fed c.next_part.new.reader c.next_part.new.feed) _ (rw c.in_ok-next_part.was at c.next_part.ensures.leaves))
