use Rattle.std.proofs.Common.{◌≡◌, length}
use Rattle.std.specs.Option.{option_map, option_or}
use Rattle.json_places.specs.Values.{entries, last_under, next_entries}
use Rattle.json_places.proofs.walk.last_under.Given as goal

-- what is found further on counts, else what was found last
abbrev pub invariant-loop-next : goal.invariant-loop-next
invariant-loop-next l =
    option_or (last_under l.key (next_entries l.member)) (option_map (λ value. value.now) l.found)
    ≡ last_under l.key (entries l.inside)

abbrev pub decreases-loop-next : goal.decreases-loop-next
decreases-loop-next l = length l.member
