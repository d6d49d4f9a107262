use Rattle.std.proofs.Common.{map}
use Rattle.serde_json.specs.Find.{as_array}
use Rattle.serde_json.specs.View.{view}
use Rattle.case_json.proofs.Elements.{elements-seen}
use Rattle.case_json.proofs.json.elements.Goals as goal

pub returns-in-Some : goal.returns-in-Some
returns-in-Some c =
    rw c.as_slice.ensures.value
    (elements-seen (map view c.in-Some.items.now.items) (as_array (view c.args.json.now)) c.in-Some.ensures)
