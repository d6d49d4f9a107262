use Rattle.cert_text.specs.declared.item.Part.TheVariants as part
use Rattle.ot_sections.specs.Feeding.{fed}
use Rattle.ot_sections.proofs.Coming.{came_as}
use Rattle.ot_sections.proofs.tree.split_token.Goals as goal

pub returns-clause-token : goal.returns-clause-token
returns-clause-token g c =
    came_as g.F.Feed (fed c.args.reader.now c.args.feed.now) (fed c.expect_part.new.reader c.expect_part.new.feed)
    c.in_ok-offset.field-0 (part.Tok c.in-Tok.tok) (cc) c.in_ok-offset.ensures.came
