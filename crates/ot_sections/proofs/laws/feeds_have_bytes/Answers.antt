use Rattle.ot_sections.proofs.Coming.{some_all}
use Rattle.ot_sections.proofs.laws.feeds_have_bytes.Goals as goal

pub returns : goal.returns
returns g c = some_all g.F.Feed
