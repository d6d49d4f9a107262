use Rattle.std.proofs.Common.{[]}
use Rattle.cert_text.specs.Reading.{Reading}
use Rattle.ot_sections.proofs.AllJudged.{read_judged}
use Rattle.ot_sections.proofs.laws.all_bytes_are_judged.Goals as goal

pub returns : goal.returns
returns g c plan point bytes =
    let read = c.all_bytes_are_read.ensures (Reading point.place point.offset []) bytes in
    read_judged plan read.0 read.1 point bytes read.2
