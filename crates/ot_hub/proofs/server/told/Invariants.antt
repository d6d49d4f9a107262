use Rattle.std.proofs.Common.{◌≡◌, [], ◌∷◌, ◌++◌, map, take}
use Rattle.ot_hub.proofs.server.told.Given as goal

abbrev pub invariant-loop-list : goal.invariant-loop-list
invariant-loop-list l = l.longer ≡ map (λ list. list ++ l.item ∷ []) (take l.list-index l.lists)
