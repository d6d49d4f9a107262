use Rattle.std.proofs.Common.{◌≡◌, map, drop}
use Rattle.serde_json.specs.View.{view}
use Rattle.case_json.specs.Misfits.{elements_misfit}
use Rattle.case_json.proofs.misfits.elements_misfit.Given as goal

-- what is wrong is among the elements that are left
abbrev pub invariant-loop-place : goal.invariant-loop-place
invariant-loop-place g l =
    elements_misfit g.S.Shape.wrong l.place (map view (drop l.place l.elements))
    ≡ elements_misfit g.S.Shape.wrong 0 (map view l.elements)
