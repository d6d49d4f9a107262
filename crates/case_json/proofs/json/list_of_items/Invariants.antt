use Rattle.std.proofs.Common.{◌≡◌, map, drop}
use Rattle.serde_json.specs.View.{view}
use Rattle.case_json.specs.Json.{each}
use Rattle.case_json.proofs.Elements.{found_before}
use Rattle.case_json.proofs.json.list_of_items.Given as goal

-- what was read stands before what the reader makes of the rest
abbrev pub invariant-loop-item : goal.invariant-loop-item
invariant-loop-item g l =
    each g.T.Element.meant (map view l.items)
    ≡ found_before l.list (each g.T.Element.meant (map view (drop l.item-index l.items)))
