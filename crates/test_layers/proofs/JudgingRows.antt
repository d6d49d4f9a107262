-- Rows of what is judged: cycles of literals, and the open places of a path. The calls give exactly these definitions;
-- more rows are examples of their crates.
use Rattle.std.specs.Prelude.{◌≡◌, ℕ, pos, negsuc, List, [], ◌∷◌, drop, Ok, Err, refl}
use Rattle.diff_graph.specs.declared.lit.Lit.{Lit}
use Rattle.diff_graph.specs.declared.lit.PickError.TheVariants.{BadPick}
use Rattle.diff_graph.specs.Cycles.{pick_verdict}
use Rattle.ask_core.specs.Paths.{OpenPlace, after_question}

abbrev below : Lit
below = record { x = 1; y = 2; k = negsuc 0 }

abbrev back : Lit
back = record { x = 2; y = 1; k = pos 0 }

abbrev at_most : Lit
at_most = record { x = 1; y = 2; k = pos 0 }

a_cycle_may_go_round_twice : pick_verdict (below ∷ back ∷ at_most ∷ []) (1 ∷ 0 ∷ 1 ∷ 2 ∷ []) ≡ Ok tt
a_cycle_may_go_round_twice = refl

places_come_before_the_chain : pick_verdict (below ∷ back ∷ at_most ∷ []) (0 ∷ 0 ∷ 3 ∷ []) ≡ Err BadPick
places_come_before_the_chain = refl

-- nodes are numbers: 0 asks a literal, and its part for yes asks another one
abbrev first : Lit
first = record { x = 0; y = 1; k = pos 0 }

abbrev second : Lit
second = record { x = 1; y = 0; k = negsuc 0 }

abbrev begun : List (OpenPlace ℕ)
begun = record { node = 0; answers = [] } ∷ []

abbrev asked : List (OpenPlace ℕ)
asked = after_question second 3 4 (after_question first 1 2 begun)

the_part_for_yes_is_next :
    asked ≡ record { node = 3; answers = first ∷ second ∷ [] }
    ∷ record { node = 4; answers = first ∷ first ∷ [] }
    ∷ record { node = 2; answers = second ∷ [] } ∷ []
the_part_for_yes_is_next = refl

a_close_leads_to_the_innermost_part_for_no : drop 1 asked
    ≡ record { node = 4; answers = first ∷ first ∷ [] } ∷ record { node = 2; answers = second ∷ [] } ∷ []
a_close_leads_to_the_innermost_part_for_no = refl
