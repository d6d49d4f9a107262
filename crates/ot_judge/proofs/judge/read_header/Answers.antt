use Rattle.ot_sections.specs.Feeding.{fed}
use Rattle.ot_judge.proofs.WholeRun.{came_header}
use Rattle.ot_judge.proofs.judge.read_header.Goals as goal

pub returns-clause-header : goal.returns-clause-header
returns-clause-header g c =
    came_header g.F.Feed (fed c.args.reader.now c.args.feed.now) (fed c.expect_part.new.reader c.expect_part.new.feed) _
    c.in-Header.level (cc) c.in_ok-part.ensures.came
