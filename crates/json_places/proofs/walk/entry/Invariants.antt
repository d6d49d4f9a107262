use Rattle.std.proofs.Common.{◌≡◌, ◌-◌}
use Rattle.std.specs.List.{slice_get}
use Rattle.json_places.specs.Values.{entries}
use Rattle.json_places.proofs.walk.entry.Given as goal

-- as many entries are passed as steps are made
abbrev pub invariant-loop-step : goal.invariant-loop-step
invariant-loop-step l =
    slice_get (entries l.entry) (l.number - l._step) ≡ slice_get (entries l.inside) l.number
