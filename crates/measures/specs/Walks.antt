-- The nodes that a walk goes on with.
use Rattle.std.specs.Prelude.{◌≡◌, List, [], ◌∷◌, ◌++◌, Option, Some, option_to_list}
use Rattle.ask_core.specs.declared.turn.Turn.{Turn}
use Rattle.ask_core.specs.declared.turn.Turn.TheVariants as turn

-- the node for yes is next, and the one for no waits; behind an end it is one that waited
abbrev pub WalkGoesOn : {N W : Type 0} → Turn N W → List N → List N → Option N → Type 0
WalkGoesOn (turn.Ask lit on_yes on_no) before after next = (after ≡ before ++ on_no ∷ []) × (next ≡ Some on_yes)
WalkGoesOn turn.Holds before after next = before ≡ after ++ option_to_list next
WalkGoesOn (turn.Fails why) before after next = before ≡ after ++ option_to_list next
