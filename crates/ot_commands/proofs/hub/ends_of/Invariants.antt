use Rattle.std.proofs.Common.{◌≡◌, map, take}
use Rattle.ot_hub.specs.Views.{hub_view_of}
use Rattle.ot_commands.specs.Hub.{client_end}
use Rattle.ot_commands.proofs.hub.ends_of.Given as goal

abbrev pub invariant-loop-place : goal.invariant-loop-place
invariant-loop-place l = l.ends ≡ map client_end (take l.place (hub_view_of l.fn.hub).clients)
